use Rattle.std.proofs.Common.{◌≡◌, map, take}
use Rattle.ioa_tree.specs.View.{proposal_of}
use Rattle.ioa_crash.proofs.copies.copied_proposals.Given as goal

abbrev pub invariant-loop-proposal : goal.invariant-loop-proposal
invariant-loop-proposal l = map proposal_of l.out.items ≡ map proposal_of (take l.proposal-index l.proposals)
