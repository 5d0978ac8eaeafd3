-- Expressions in order, as lists and as trees of their own.
use Rattle.std.proofs.Common.{◌≡◌, List, [], ◌∷◌, ◌++◌, max, true, Ok, refl, sym, ap, ◌∙◌, arith}
use Rattle.ioa_lex.specs.Tokens.{Tok}
use Rattle.ioa_value.specs.Actions as actions
use Rattle.ioa_value.specs.declared.terminal.Terminal.TheVariants as terminals
use Rattle.ioa_tree.specs.declared.tree.Expression.{Expression}
use Rattle.ioa_tree.specs.Tree.{Expr, make}
use Rattle.ioa_tree.specs.Depth.{depth_of, exprs_depth}
use Rattle.ioa_grammar.specs.Reading.{Reader, after_name, sees, after, sign, separated, closing}
use Rattle.ioa_tree.specs.Rows.{in_order}
use Rattle.ioa_tree.specs.View.{expr_of, exprs_of}

-- ---- what is read

pub depth_pushed : (es : List Expression) (e : Expression) → exprs_depth (exprs_of (es ++ e ∷ [])) ≡ max (depth_of (expr_of e)) (exprs_depth (exprs_of es))
depth_pushed [] e = refl
depth_pushed (x ∷ es) e = omega (arith, depth_pushed es e)

pub tuple_read : (inner : Reader Expr) (n : actions.Name) (ts next left end : List Tok) (es : List Expr) → sees terminals.Open ts ≡ true → next ≡ after terminals.Open ts →
    separated terminals.Comma inner next ≡ Ok (es, left) → sign terminals.Close left ≡ Ok (tt, end) → after_name inner n ts ≡ Ok (make n (in_order es), end)
unfolding after_name closing
tuple_read inner n ts next left end es seen is read closed =
    let here : separated terminals.Comma inner (after terminals.Open ts) ≡ Ok (es, left) = ap (separated terminals.Comma inner) (sym is) ∙ read in
    rw (seen, here, closed) refl
