-- Statements of the program that choose or loop, and expressions that make tuples, by slices of their parts.
use Rattle.std.proofs.Common.{◌≡◌, ℕ, ◌+◌, ◌<◌, ◌^◌, arith, List, refl, sym, ap, ◌∙◌, Vec, Global}
use Rattle.ioa_tree.specs.declared.tree.Statement.{Statement}
use Rattle.ioa_tree.specs.declared.tree.Statement.TheVariants.{If, For}
use Rattle.ioa_tree.specs.declared.tree.Arm.{Arm}
use Rattle.ioa_tree.specs.declared.tree.Name.{Name}
use Rattle.ioa_tree.specs.declared.tree.Expression.{Expression}
use Rattle.ioa_tree.specs.declared.tree.Expression.TheVariants.{Make}
use Rattle.ioa_tree.specs.Tree.{make, choose, each}
use Rattle.ioa_tree.specs.View.{name_of, expr_of, exprs_of, stmt_of, stmts_of, arms_of}
use Rattle.ioa_tree.proofs.StatementRows.{stmt_choose, stmt_looped}
use Rattle.ioa_tree.proofs.ExpressionRows.{expr_made}
use Rattle.ioa_emit.specs.Extents.{extent, stmt_extent, stmts_extent, arms_extent}

-- the tree of an expression that makes a tuple, by a slice of its fields
pub made_of_slice : (e : Expression) (x : Name) (fields : Vec Expression Global) (these : List Expression) → e ≡ Make x fields → these ≡ fields.items → expr_of e ≡ make (name_of x) (exprs_of these)
made_of_slice e x fields these is a = expr_made e x fields is ∙ ap (λ es. make (name_of x) (exprs_of es)) (sym a)

-- the tree of a statement that chooses, by slices of its arms and of its other statements
pub stmt_chosen : (s : Statement) (arms : Vec Arm Global) (others : Vec Statement Global) (line : ℕ) (these : List Arm) (those : List Statement) → s ≡ If arms others line → these ≡ arms.items → those ≡ others.items → stmt_of s ≡ choose (arms_of these) (stmts_of those)
stmt_chosen s arms others line these those is a b =
    ap stmt_of is ∙ stmt_choose arms others line ∙ ap (λ as_arms. choose as_arms (stmts_of others.items)) (ap arms_of (sym a)) ∙ ap (choose (arms_of these)) (ap stmts_of (sym b))

-- the tree of a loop, by a slice of its body
pub stmt_over : (s : Statement) (x : Name) (e : Expression) (body : Vec Statement Global) (line : ℕ) (those : List Statement) → s ≡ For x e body line → those ≡ body.items → stmt_of s ≡ each (name_of x) (expr_of e) (stmts_of those)
stmt_over s x e body line those is b =
    stmt_looped s x e body line is ∙ ap (each (name_of x) (expr_of e)) (ap stmts_of (sym b))

pub loop_size : (s : Statement) (x : Name) (e : Expression) (body : Vec Statement Global) (line : ℕ) (those : List Statement) → s ≡ For x e body line → those ≡ body.items → stmt_extent (stmt_of s) ≡ extent (expr_of e) + 2 + stmts_extent (stmts_of those)
loop_size s x e body line those is b = ap stmt_extent (stmt_over s x e body line those is b)

pub arms_within : (s : Statement) (arms : Vec Arm Global) (others : Vec Statement Global) (line : ℕ) (these : List Arm) → s ≡ If arms others line → these ≡ arms.items → stmt_extent (stmt_of s) < 2 ^ 16 → arms_extent (arms_of these) < 2 ^ 16
arms_within s arms others line these is a h =
    let size : stmt_extent (stmt_of s) ≡ arms_extent (arms_of these) + stmts_extent (stmts_of others.items) = ap stmt_extent (stmt_chosen s arms others line these others.items is a refl) in
    omega (arith, size, h)

pub others_within : (s : Statement) (arms : Vec Arm Global) (others : Vec Statement Global) (line : ℕ) (those : List Statement) → s ≡ If arms others line → those ≡ others.items → stmt_extent (stmt_of s) < 2 ^ 16 → stmts_extent (stmts_of those) < 2 ^ 16
others_within s arms others line those is b h =
    let size : stmt_extent (stmt_of s) ≡ arms_extent (arms_of arms.items) + stmts_extent (stmts_of those) = ap stmt_extent (stmt_chosen s arms others line arms.items those is refl b) in
    omega (arith, size, h)
