use Rattle.std.proofs.Common.{◌≡◌, ◌++◌, map, take}
use Rattle.std.specs.List.{flat_map}
use Rattle.ioa_tree.specs.View.{proposal_of}
use Rattle.ioa_warnings.specs.Dead.{dead_by_proposal}
use Rattle.ioa_warnings.specs.Free.{lined}
use Rattle.ioa_warnings.specs.Shown.{dead_of}
use Rattle.ioa_warnings.proofs.dead.add_of_proposals.Given as goal

-- by the proposals so far
abbrev pub invariant-loop-proposal : goal.invariant-loop-proposal
invariant-loop-proposal l =
    map dead_of l.found.items
    ≡ map dead_of l.initial.found.items ++ flat_map (dead_by_proposal (lined l.transition)) (map proposal_of (take l.proposal-index l.transition.proposals.items))
