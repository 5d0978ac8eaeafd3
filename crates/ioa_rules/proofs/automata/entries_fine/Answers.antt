use Rattle.ioa_rules.proofs.FineLemmas.{entries-say}
use Rattle.ioa_rules.proofs.automata.entries_fine.Goals as goal

pub returns : goal.returns
returns c = entries-say _ _ _ _ _ c.deref.ensures.value c.in_ok-distinct.ensures c.each_entry_fine.ensures
