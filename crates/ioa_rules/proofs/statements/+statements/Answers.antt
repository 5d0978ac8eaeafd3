use Rattle.std.proofs.Common.{refl, ◌∙◌}
use Rattle.ioa_tree.specs.View.{arm_of, stmt_of}
use Rattle.ioa_value.proofs.ItemLemmas.{all_done}
use Rattle.ioa_rules.specs.Places.{stmt_fine, in_stmt, arm_fine, in_arm}
use Rattle.ioa_rules.proofs.SayLemmas.{says-in-list}
use Rattle.ioa_rules.proofs.StatementLemmas.{each_statement, each_arm, statements-say, arms-say, arms-passed, others-say, loop-refused, loop-says}
use Rattle.ioa_rules.proofs.statements.+statements.Goals as goal

pub statements_fine-returns-in_err-statement_fine : goal.statements_fine-returns-in_err-statement_fine
statements_fine-returns-in_err-statement_fine t c =
    let p = c.args.place.now in
    let ss = c.args.statements.now in
    statements-say p c.from_residual.result ss
    (says-in-list c.statement_fine.result c.from_residual.result _ (stmt_fine p) (in_stmt p) stmt_of ss ss _ c.statement-item.result refl c.loop-statement-test.true c.statement-item.is c.loop-statement.invariant
    c.in_err-statement_fine.was c.from_residual.ensures.1 c.statement_fine.ensures)

pub statements_fine-returns : goal.statements_fine-returns
statements_fine-returns t c =
    let p = c.args.place.now in
    let ss = c.args.statements.now in
    each_statement p ss ∙ all_done (stmt_fine p) stmt_of ss ss _ _ refl c.loop-statement-test.false c.loop-statement.invariant

pub arms_fine-returns-in_err-arm_fine : goal.arms_fine-returns-in_err-arm_fine
arms_fine-returns-in_err-arm_fine t c =
    let p = c.args.place.now in
    let xs = c.args.arms.now in
    arms-say p c.from_residual.result xs
    (says-in-list c.arm_fine.result c.from_residual.result _ (arm_fine p) (in_arm p) arm_of xs xs _ c.arm-item.result refl c.loop-arm-test.true c.arm-item.is c.loop-arm.invariant
    c.in_err-arm_fine.was c.from_residual.ensures.1 c.arm_fine.ensures)

pub arms_fine-returns : goal.arms_fine-returns
arms_fine-returns t c =
    let p = c.args.place.now in
    let xs = c.args.arms.now in
    each_arm p xs ∙ all_done (arm_fine p) arm_of xs xs _ _ refl c.loop-arm-test.false c.loop-arm.invariant

pub statement_fine-returns-in_err-arms_fine-in-If : goal.statement_fine-returns-in_err-arms_fine-in-If
statement_fine-returns-in_err-arms_fine-in-If t c =
    arms-passed c.args.place.now _ _ _ _ _ _ _ _ c.in-If.is c.deref.ensures.value
    c.in_err-arms_fine-in-If.was c.from_residual.ensures.1 c.arms_fine.ensures

pub statement_fine-returns-in_ok-arms_fine-in-If : goal.statement_fine-returns-in_ok-arms_fine-in-If
statement_fine-returns-in_ok-arms_fine-in-If t c =
    others-say c.args.place.now _ _ _ _ _ _ _ c.in-If.is c.deref.ensures.value c.deref-in-If.ensures.value
    c.in_ok-arms_fine-in-If.ensures c.statements_fine.ensures

pub statement_fine-returns-in_err-within-in-For : goal.statement_fine-returns-in_err-within-in-For
statement_fine-returns-in_err-within-in-For t c =
    loop-refused c.args.place.now _ _ _ _ _ _ _ _ c.in-For.is c.in_err-within-in-For.was c.from_residual-in_err-within-in-For.ensures.1 c.within.ensures

pub statement_fine-returns-in_ok-within-in-For : goal.statement_fine-returns-in_ok-within-in-For
statement_fine-returns-in_ok-within-in-For t c =
    loop-says c.args.place.now _ _ _ _ _ _ _ _ _ c.in-For.is c.deref-in-For.ensures.value c.in_ok-within-in-For.was c.within.ensures c.statements_fine-in-For.ensures
