use Rattle.std.proofs.Common.{map, sym, ap, ◌∙◌}
use Rattle.std.proofs.lemmas.List.{take_all}
use Rattle.ioa_tree.specs.Tree.{make}
use Rattle.ioa_tree.specs.View.{name_of, expr_of, exprs_of}
use Rattle.ioa_tree.proofs.ExpressionRows.{expr_make, expr_made, alike_exprs}
use Rattle.ioa_crash.proofs.copies.+expression.Goals as goal

pub copied_expression-returns-in_ok-copied_expressions-in-Make : goal.copied_expression-returns-in_ok-copied_expressions-in-Make
copied_expression-returns-in_ok-copied_expressions-in-Make t c =
    expr_make c.in_ok-name-in-Make.name c.in_ok-copied_expressions-in-Make.field-0
    ∙ ap (λ x. make x (exprs_of c.in_ok-copied_expressions-in-Make.field-0.items)) c.in_ok-name-in-Make.ensures
    ∙ ap (make (name_of c.in-Make.name)) (c.in_ok-copied_expressions-in-Make.ensures ∙ ap exprs_of c.deref-in-Make.ensures.value)
    ∙ sym (expr_made _ _ _ c.in-Make.is)

pub copied_expressions-returns : goal.copied_expressions-returns
copied_expressions-returns t c =
    alike_exprs _ _ (c.loop-expression.invariant ∙ ap (map expr_of) (take_all c.loop-expression.expression-index c.args.expressions.now c.loop-expression-test.false))
