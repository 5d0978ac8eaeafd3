use Rattle.ioa_rules.proofs.StatementLemmas.{choice_counted, arms_too_many, loop_counted}
use Rattle.ioa_rules.proofs.limits.+counted.Goals as goal

pub statement_counted-returns-in_err-with_arms-in-If : goal.statement_counted-returns-in_err-with_arms-in-If
statement_counted-returns-in_err-with_arms-in-If t c =
    arms_too_many _ _ _ _ _ _ _ _ _ _ c.in-If.is c.deref.ensures.value c.in_ok-with_own-in-If.ensures.0 c.in_err-with_arms-in-If.was c.from_residual-in_err-with_arms-in-If.ensures.1 c.arms_counted.ensures

pub statement_counted-returns-in_ok-with_arms-in-If : goal.statement_counted-returns-in_ok-with_arms-in-If
statement_counted-returns-in_ok-with_arms-in-If t c =
    choice_counted _ _ _ _ _ _ _ _ _ _ c.in-If.is c.deref.ensures.value c.deref-in-If.ensures.value c.in_ok-with_own-in-If.ensures.0 c.in_ok-with_arms-in-If.ensures.0 c.statements_counted.ensures

pub statement_counted-returns-in_ok-with_items-in-For : goal.statement_counted-returns-in_ok-with_items-in-For
statement_counted-returns-in_ok-with_items-in-For t c =
    loop_counted _ _ _ _ _ _ _ _ _ _ c.in-For.is c.deref-in-For.ensures.value c.nodes-in-For.ensures c.in_ok-with_items-in-For.ensures.0 c.in_ok-with_items-in-For.ensures.1 c.statements_counted-in-For.ensures
