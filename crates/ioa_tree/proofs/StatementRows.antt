-- Statements and arms, as lists and as trees of their own.
use Rattle.std.proofs.Common.{◌≡◌, ℕ, List, [], ◌∷◌, map, refl, sym, ap, ◌∙◌, rules, Vec, Global}
use Rattle.ioa_tree.specs.declared.tree.Statement.{Statement, Row_of-Statement, end_of-Statement, more_of-Statement, items-the_row-Statement}
use Rattle.ioa_tree.specs.declared.tree.Statement.TheVariants.{If, For}
use Rattle.ioa_tree.specs.declared.tree.Statement.TheViews.{the_lemmas}
use Rattle.ioa_tree.specs.declared.tree.Statement.TheBlock.{Row_of-Arm, end_of-Arm, more_of-Arm, items-the_row-Arm, shown-the_row-Statement-0}
use Rattle.ioa_tree.specs.declared.tree.Name.{Name}
use Rattle.ioa_tree.specs.declared.tree.Expression.{Expression}
use Rattle.ioa_tree.specs.declared.tree.Arm.{Arm}
use Rattle.ioa_tree.specs.Tree.{Expr, Stmt, Stmts, stop, seq, choose, each, Arms, no_arm, arm}
use Rattle.ioa_tree.specs.View.{name_of, expr_of, stmt_of, stmts_of, arm_of, arms_of, row_stmts, row_arms}
use Rattle.ioa_tree.specs.Rows.{sequence, choices}

-- ---- rows inside a statement

pub row_stmts-items : (n : _) (k : Row_of-Statement n) → row_stmts k ≡ stmts_of (items-the_row-Statement n k)
row_stmts-items n end_of-Statement = refl
row_stmts-items n (more_of-Statement s rest) = ap (seq (stmt_of s)) (row_stmts-items _ rest)

pub row_arms-items : (n : _) (k : Row_of-Arm n) → row_arms k ≡ arms_of (items-the_row-Arm n k)
row_arms-items n end_of-Arm = refl
row_arms-items n (more_of-Arm condition shape statements rest) =
    let kept : row_stmts statements ≡ stmts_of (shown-the_row-Statement-0 shape statements).items = search (rules, the_lemmas, row_stmts-items) in
    ap (λ ss. arm (expr_of condition) ss (row_arms rest)) kept
    ∙ ap (arm (expr_of condition) (stmts_of (shown-the_row-Statement-0 shape statements).items)) (row_arms-items _ rest)

pub stmt_choose : (arms : Vec Arm Global) (others : Vec Statement Global) (line : ℕ) → stmt_of (If arms others line) ≡ choose (arms_of arms.items) (stmts_of others.items)
stmt_choose arms others line = search (rules, the_lemmas, row_stmts-items, row_arms-items)

pub stmt_chosen : (s : Statement) (arms : Vec Arm Global) (others : Vec Statement Global) (line : ℕ) → s ≡ If arms others line → stmt_of s ≡ choose (arms_of arms.items) (stmts_of others.items)
stmt_chosen s arms others line is = ap stmt_of is ∙ stmt_choose arms others line

pub chosen_arms : (s u : Statement) (arms those : Vec Arm Global) (others rest : Vec Statement Global) (l k : ℕ) → s ≡ If arms others l → u ≡ If those rest k → stmt_of s ≡ stmt_of u →
    arms_of arms.items ≡ arms_of those.items
chosen_arms s u arms those others rest l k this that same =
    let e : choose (arms_of arms.items) (stmts_of others.items) ≡ choose (arms_of those.items) (stmts_of rest.items) = sym (stmt_chosen s arms others l this) ∙ same ∙ stmt_chosen u those rest k that in
    cc

pub stmt_each : (x : Name) (e : Expression) (body : Vec Statement Global) (line : ℕ) → stmt_of (For x e body line) ≡ each (name_of x) (expr_of e) (stmts_of body.items)
stmt_each x e body line = search (rules, the_lemmas, row_stmts-items)

pub stmt_looped : (s : Statement) (x : Name) (e : Expression) (body : Vec Statement Global) (line : ℕ) → s ≡ For x e body line
    → stmt_of s ≡ each (name_of x) (expr_of e) (stmts_of body.items)
stmt_looped s x e body line is = ap stmt_of is ∙ stmt_each x e body line

-- ---- lists

pub sequence_shown : (ss : List Statement) → sequence (map stmt_of ss) ≡ stmts_of ss
sequence_shown [] = refl
sequence_shown (s ∷ ss) = ap (seq (stmt_of s)) (sequence_shown ss)

pub choices_shown : (arms : List Arm) → choices (map arm_of arms) ≡ arms_of arms
choices_shown [] = refl
choices_shown (a ∷ arms) = ap (arm (expr_of a.condition) (stmts_of a.statements.items)) (choices_shown arms)

abbrev listed : Stmts → List Stmt
listed stop = []
listed (seq s ss) = s ∷ listed ss

abbrev listed_arms : Arms → List (Expr × Stmts)
listed_arms no_arm = []
listed_arms (arm c ss more) = (c, ss) ∷ listed_arms more

listed_shown : (ss : List Statement) → listed (stmts_of ss) ≡ map stmt_of ss
listed_shown [] = refl
listed_shown (s ∷ ss) = ap (λ r. stmt_of s ∷ r) (listed_shown ss)

listed_arms_shown : (arms : List Arm) → listed_arms (arms_of arms) ≡ map arm_of arms
listed_arms_shown [] = refl
listed_arms_shown (a ∷ arms) = ap (λ r. arm_of a ∷ r) (listed_arms_shown arms)

pub stmts_alike : (xs ys : List Statement) → stmts_of xs ≡ stmts_of ys → map stmt_of xs ≡ map stmt_of ys
stmts_alike xs ys same = sym (listed_shown xs) ∙ ap listed same ∙ listed_shown ys

pub alike_stmts : (xs ys : List Statement) → map stmt_of xs ≡ map stmt_of ys → stmts_of xs ≡ stmts_of ys
alike_stmts xs ys same = sym (sequence_shown xs) ∙ ap sequence same ∙ sequence_shown ys

pub arms_alike : (xs ys : List Arm) → arms_of xs ≡ arms_of ys → map arm_of xs ≡ map arm_of ys
arms_alike xs ys same = sym (listed_arms_shown xs) ∙ ap listed_arms same ∙ listed_arms_shown ys

pub alike_arms : (xs ys : List Arm) → map arm_of xs ≡ map arm_of ys → arms_of xs ≡ arms_of ys
alike_arms xs ys same = sym (choices_shown xs) ∙ ap choices same ∙ choices_shown ys
