use Rattle.ioa_tree.specs.View.{entry_of}
use Rattle.ioa_rules.proofs.SayLemmas.{says-in-list}
use Rattle.ioa_rules.proofs.automata.each_entry_fine.Goals as goal

pub returns-in_err-entry_fine : goal.returns-in_err-entry_fine
returns-in_err-entry_fine c =
    says-in-list _ c.from_residual.result _ _ _ entry_of _ _ _ c.entry-item.result c.deref-entry-items.ensures.value c.loop-entry-test.true c.entry-item.is c.loop-entry.invariant c.in_err-entry_fine.was c.from_residual.ensures.1 c.entry_fine.ensures
