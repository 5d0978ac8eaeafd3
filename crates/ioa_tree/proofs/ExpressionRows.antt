-- Expressions in order, as lists and as trees of their own.
use Rattle.std.proofs.Common.{◌≡◌, List, [], ◌∷◌, map, refl, sym, ap, ◌∙◌, rules, Vec, Global}
use Rattle.ioa_tree.specs.declared.tree.Name.{Name}
use Rattle.ioa_tree.specs.declared.tree.Expression.{Expression, Row_of-Expression, end_of-Expression, more_of-Expression, items-the_row-Expression}
use Rattle.ioa_tree.specs.declared.tree.Expression.TheVariants.{Make}
use Rattle.ioa_tree.specs.declared.tree.Expression.TheViews.{the_lemmas}
use Rattle.ioa_tree.specs.Tree.{Expr, make, also}
use Rattle.ioa_tree.specs.View.{name_of, expr_of, exprs_of, row_exprs}
use Rattle.ioa_tree.specs.Tree.{Exprs, no_expr}
use Rattle.ioa_tree.specs.Rows.{in_order}

-- ---- the row inside an expression

pub row_exprs-items : (n : _) (k : Row_of-Expression n) → row_exprs k ≡ exprs_of (items-the_row-Expression n k)
row_exprs-items n end_of-Expression = refl
row_exprs-items n (more_of-Expression e rest) = ap (also (expr_of e)) (row_exprs-items _ rest)

pub expr_make : (x : Name) (fields : Vec Expression Global) → expr_of (Make x fields) ≡ make (name_of x) (exprs_of fields.items)
expr_make x fields = search (rules, the_lemmas, row_exprs-items)

pub expr_made : (e : Expression) (x : Name) (fields : Vec Expression Global) → e ≡ Make x fields → expr_of e ≡ make (name_of x) (exprs_of fields.items)
expr_made e x fields is = ap expr_of is ∙ expr_make x fields

-- ---- lists

abbrev pub listed : Exprs → List Expr
listed no_expr = []
listed (also e es) = e ∷ listed es

listed_shown : (es : List Expression) → listed (exprs_of es) ≡ map expr_of es
listed_shown [] = refl
listed_shown (e ∷ es) = ap (λ r. expr_of e ∷ r) (listed_shown es)

pub exprs_alike : (xs ys : List Expression) → exprs_of xs ≡ exprs_of ys → map expr_of xs ≡ map expr_of ys
exprs_alike xs ys same = sym (listed_shown xs) ∙ ap listed same ∙ listed_shown ys

pub in_order_shown : (es : List Expression) → in_order (map expr_of es) ≡ exprs_of es
in_order_shown [] = refl
in_order_shown (e ∷ es) = ap (also (expr_of e)) (in_order_shown es)

pub alike_exprs : (xs ys : List Expression) → map expr_of xs ≡ map expr_of ys → exprs_of xs ≡ exprs_of ys
alike_exprs xs ys same = sym (in_order_shown xs) ∙ ap in_order same ∙ in_order_shown ys
