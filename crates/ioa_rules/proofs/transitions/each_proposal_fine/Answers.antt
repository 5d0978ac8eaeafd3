use Rattle.ioa_tree.specs.View.{proposal_of}
use Rattle.ioa_rules.proofs.SayLemmas.{says-in-list}
use Rattle.ioa_rules.proofs.transitions.each_proposal_fine.Goals as goal

pub returns-in_err-proposal_fine : goal.returns-in_err-proposal_fine
returns-in_err-proposal_fine c =
    says-in-list _ c.from_residual.result _ _ _ proposal_of _ _ _ c.proposal-item.result c.deref-proposal-items.ensures.value c.loop-proposal-test.true c.proposal-item.is c.loop-proposal.invariant c.in_err-proposal_fine.was c.from_residual.ensures.1 c.proposal_fine.ensures
