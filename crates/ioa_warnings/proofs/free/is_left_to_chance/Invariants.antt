use Rattle.std.proofs.Common.{◌≡◌, map, drop}
use Rattle.std.specs.List.{list_any}
use Rattle.ioa_tree.specs.View.{name_of, proposal_of}
use Rattle.ioa_warnings.specs.Free.{is_chance_of}
use Rattle.ioa_warnings.proofs.free.is_left_to_chance.Given as goal

-- one of those that are left does, or none
abbrev pub invariant-loop-proposal : goal.invariant-loop-proposal
invariant-loop-proposal l =
    list_any (is_chance_of (name_of l.name)) (map proposal_of (drop l.proposal-index l.proposals)) ≡ list_any (is_chance_of (name_of l.name)) (map proposal_of l.proposals)
