use Rattle.std.proofs.Common.{map, sym, ap, ◌∙◌}
use Rattle.std.proofs.lemmas.List.{take_all}
use Rattle.ioa_tree.specs.Tree.{choose, each}
use Rattle.ioa_tree.specs.View.{name_of, expr_of, stmt_of, stmts_of, arms_of}
use Rattle.ioa_tree.specs.View.{arm_of}
use Rattle.ioa_tree.proofs.StatementRows.{stmt_choose, stmt_each, alike_stmts, alike_arms}
use Rattle.ioa_crash.proofs.copies.+statement.Goals as goal

pub copied_statement-returns-in_ok-others-in-If : goal.copied_statement-returns-in_ok-others-in-If
copied_statement-returns-in_ok-others-in-If t c =
    stmt_choose c.in_ok-arms-in-If.arms c.in_ok-others-in-If.others c.in-If.line
    ∙ ap (λ shown. choose shown (stmts_of c.in_ok-others-in-If.others.items)) (c.in_ok-arms-in-If.ensures ∙ ap arms_of c.deref.ensures.value)
    ∙ ap (choose (arms_of c.in-If.arms.items)) (c.in_ok-others-in-If.ensures ∙ ap stmts_of c.deref-in-If.ensures.value)
    ∙ sym (stmt_choose c.in-If.arms c.in-If.others c.in-If.line)
    ∙ ap stmt_of (sym c.in-If.is)

pub copied_statements-returns : goal.copied_statements-returns
copied_statements-returns t c =
    alike_stmts _ _ (c.loop-statement.invariant ∙ ap (map stmt_of) (take_all c.loop-statement.statement-index c.args.statements.now c.loop-statement-test.false))

pub copied_arms-returns : goal.copied_arms-returns
copied_arms-returns t c =
    alike_arms _ _ (c.loop-arm.invariant ∙ ap (map arm_of) (take_all c.loop-arm.arm-index c.args.arms.now c.loop-arm-test.false))

pub copied_statement-returns-in_ok-items-in-For : goal.copied_statement-returns-in_ok-items-in-For
copied_statement-returns-in_ok-items-in-For t c =
    let copy = stmts_of c.in_ok-body-in-For.body.items in
    let items = expr_of c.in_ok-items-in-For.items in
    stmt_each c.in_ok-name-in-For.name c.in_ok-items-in-For.items c.in_ok-body-in-For.body c.in-For.line
    ∙ ap (λ x. each x items copy) c.in_ok-name-in-For.ensures
    ∙ ap (λ e. each (name_of c.in-For.name) e copy) c.in_ok-items-in-For.ensures
    ∙ ap (each (name_of c.in-For.name) (expr_of c.in-For.items)) (c.in_ok-body-in-For.ensures ∙ ap stmts_of c.deref-in-For.ensures.value)
    ∙ sym (stmt_each c.in-For.name c.in-For.items c.in-For.body c.in-For.line)
    ∙ ap stmt_of (sym c.in-For.is)
