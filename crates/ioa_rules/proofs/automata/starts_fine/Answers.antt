use Rattle.ioa_tree.specs.View.{variable_of}
use Rattle.ioa_rules.proofs.SayLemmas.{says-in-list}
use Rattle.ioa_rules.proofs.automata.starts_fine.Goals as goal

pub returns-in_err-start_fine : goal.returns-in_err-start_fine
returns-in_err-start_fine c =
    says-in-list _ c.from_residual.result _ _ _ variable_of _ _ _ c.variable-item.result c.deref-variable-items.ensures.value c.loop-variable-test.true c.variable-item.is c.loop-variable.invariant c.in_err-start_fine.was c.from_residual.ensures.1 c.start_fine.ensures
