use Rattle.std.proofs.Common.{map, length, ap, arith}
use Rattle.ioa_tree.specs.View.{position_of, proposal_of}
use Rattle.ioa_emit.specs.Emitting.{proposals_nodes}
use Rattle.ioa_emit.proofs.Lengths.{proposals_small}
use Rattle.ioa_compile.proofs.transition.proposals_code.Goals as goal

pub emit_proposals-requires-clause-short : goal.emit_proposals-requires-clause-short
emit_proposals-requires-clause-short c =
    let rs = map proposal_of c.args.proposals.now in
    let ps = map position_of c.deref.result.now in
    let nodes = ap (λ l. proposals_nodes rs (map position_of l)) c.deref.ensures.value in
    let long = ap (λ l. length (map position_of l)) c.deref.ensures.value in
    omega (arith, proposals_small rs ps, nodes, long, c.requires.size, c.requires.positions, c.new.ensures.items, c.new.ensures.len)
