use Rattle.ioa_tree.specs.View.{transition_of}
use Rattle.ioa_rules.proofs.SayLemmas.{says-in-list}
use Rattle.ioa_rules.proofs.transitions.transitions_of_entry_fine.Goals as goal

pub returns-in_err-pair_fine : goal.returns-in_err-pair_fine
returns-in_err-pair_fine c =
    says-in-list _ c.from_residual.result _ _ _ transition_of _ _ _ c.transition-item.result c.deref-transition-items.ensures.value c.loop-transition-test.true c.transition-item.is c.loop-transition.invariant c.in_err-pair_fine.was c.from_residual.ensures.1 c.pair_fine.ensures
