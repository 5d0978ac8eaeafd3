use Rattle.std.proofs.Common.{◌≡◌, map, drop}
use Rattle.ioa_tree.specs.View.{field_of, proposal_of}
use Rattle.ioa_emit.specs.Scopes.{proposal_for}
use Rattle.ioa_compile.proofs.proposals.proposal_for.Given as goal

abbrev pub invariant-loop-proposal : goal.invariant-loop-proposal
invariant-loop-proposal l =
    proposal_for (map proposal_of l.proposals) (field_of l.field) ≡ proposal_for (map proposal_of (drop l.proposal-index l.proposals)) (field_of l.field)
