use Rattle.std.proofs.Common.{◌+◌, ◌<◌, ◌^◌, length, drop, map}
use Rattle.ioa_code.specs.Machine.{Listing}
use Rattle.ioa_code.specs.Parts.{listing}
use Rattle.ioa_tree.specs.View.{position_of, proposal_of}
use Rattle.ioa_emit.specs.Extents.{proposals_extent}
use Rattle.ioa_emit.specs.Scopes.{AreKnownProposals}
use Rattle.ioa_emit.specs.Emitting.{AddsProposals, proposals_nodes}
use Rattle.ioa_compile.proofs.proposals.emit_proposals.Given as goal

abbrev pub invariant-loop-position : goal.invariant-loop-position
invariant-loop-position l = record {
  known : AreKnownProposals l.scope (map proposal_of l.proposals) (map position_of (drop l.position-index l.positions));
  room : length l.out.consts.items + proposals_nodes (map proposal_of l.proposals) (map position_of (drop l.position-index l.positions)) < 2 ^ 16;
  short : length l.out.instrs.items + proposals_extent (map proposal_of l.proposals) (map position_of (drop l.position-index l.positions)) < 2 ^ 16;
  rest : (new : Listing) → AddsProposals (listing l.scope.types l.out) new l.scope (map proposal_of l.proposals) (map position_of (drop l.position-index l.positions)) → AddsProposals (listing l.scope.types l.fn.out) new l.scope (map proposal_of l.proposals) (map position_of l.positions);
}
