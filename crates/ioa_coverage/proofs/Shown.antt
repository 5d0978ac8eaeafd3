-- Statements of the program that choose or loop, by slices of their parts, and how many arms and bodies they have.
use Rattle.std.proofs.Common.{◌≡◌, ◌==◌, ℕ, Bool, true, false, List, [], ◌∷◌, Vec, Global, ap, length, refl, sym, ◌∙◌}
use Rattle.std.proofs.lemmas.List.{nil_from_length}
use Rattle.std.proofs.lemmas.Bool.{eqb-true}
use Rattle.ioa_tree.specs.declared.tree.Arm.{Arm}
use Rattle.ioa_tree.specs.declared.tree.Expression.{Expression}
use Rattle.ioa_tree.specs.declared.tree.Name.{Name}
use Rattle.ioa_tree.specs.declared.tree.Statement.{Statement}
use Rattle.ioa_tree.specs.declared.tree.Statement.TheVariants.{For, If}
use Rattle.ioa_tree.specs.Tree.{choose, each, stop}
use Rattle.ioa_tree.specs.View.{arms_of, expr_of, name_of, stmt_of, stmts_of}
use Rattle.ioa_tree.proofs.StatementRows.{stmt_chosen, stmt_looped}
use Rattle.ioa_coverage.specs.Taken.{if_any}

pub chosen_at : (s : Statement) (arms : Vec Arm Global) (others : Vec Statement Global) (line : ℕ) (these : List Arm) (those : List Statement) → s ≡ If arms others line → these ≡ arms.items
    → those ≡ others.items → stmt_of s ≡ choose (arms_of these) (stmts_of those)
chosen_at s arms others line these those is a b =
    stmt_chosen s arms others line is ∙ ap (λ (l : List Arm). choose (arms_of l) (stmts_of others.items)) (sym a) ∙ ap (λ (l : List Statement). choose (arms_of these) (stmts_of l)) (sym b)

pub looped_at : (s : Statement) (x : Name) (e : Expression) (body : Vec Statement Global) (line : ℕ) (those : List Statement) → s ≡ For x e body line → those ≡ body.items
    → stmt_of s ≡ each (name_of x) (expr_of e) (stmts_of those)
looped_at s x e body line those is b = stmt_looped s x e body line is ∙ ap (λ (l : List Statement). each (name_of x) (expr_of e) (stmts_of l)) (sym b)

-- ---- statements, or none

pub none_there : (ss : List Statement) (b : Bool) (n : ℕ) → n ≡ length ss → b ≡ true → b ≡ (n == 0) → stmts_of ss ≡ stop
none_there ss b n long t is = ap stmts_of (nil_from_length ss (sym long ∙ eqb-true n 0 (sym is ∙ t)))

pub some_there : {X : Type 0} (ss : List Statement) (b : Bool) (n : ℕ) (this other : X) → n ≡ length ss → b ≡ false → b ≡ (n == 0) → if_any (stmts_of ss) this other ≡ this
some_there [] b n this other long f is = let zero_is : (n == 0) ≡ true = ap (λ m. m == 0) long in absurd (cc)
some_there (s ∷ ss) b n this other long f is = refl
