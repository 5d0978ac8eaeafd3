use Rattle.ioa_rules.proofs.FineLemmas.{proposals-say}
use Rattle.ioa_rules.proofs.transitions.proposals_fine.Goals as goal

pub returns : goal.returns
returns c = proposals-say _ _ _ _ _ c.deref.ensures.value c.in_ok-each_proposal_fine.ensures c.distinct.ensures
