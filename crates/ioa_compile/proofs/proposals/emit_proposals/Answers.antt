use Rattle.std.proofs.Common.{◌≡◌, ◌+◌, ◌<◌, [], ◌∷◌, List, length, map, drop, sym, subst, arith}
use Rattle.std.proofs.lemmas.List.{length-map, drop_all}
use Rattle.ioa_value.specs.Plain.{plain}
use Rattle.ioa_value.proofs.ItemLemmas.{drop_item}
use Rattle.ioa_code.specs.Parts.{listing}
use Rattle.ioa_tree.specs.declared.tree.Position.{Position}
use Rattle.ioa_tree.specs.View.{position_of, proposal_of}
use Rattle.ioa_emit.specs.Extents.{proposals_extent}
use Rattle.ioa_emit.specs.Scopes.{AreKnownProposals}
use Rattle.ioa_emit.specs.Emitting.{AddsProposals, proposals_nodes}
use Rattle.ioa_emit.proofs.Emitted.{adds_no_proposal, adds_position, nodes_first, extent_first, known_first}
use Rattle.ioa_emit.proofs.Lengths.{proposals_long}
use Rattle.ioa_compile.proofs.proposals.emit_proposals.Goals as goal

pub emit_position-requires-clause-known : goal.emit_position-requires-clause-known
emit_position-requires-clause-known c =
    let s = c.args.scope.now in
    let rs = map proposal_of c.args.proposals.now in
    let xs = c.args.positions.now in
    let i = c.loop-position.position-index in
    let x = c.position-item.result in
    let next : drop i xs ≡ x ∷ drop (i + 1) xs = drop_item xs i x (omega arith) c.position-item.is in
    (known_first s rs (position_of x) (map position_of (drop (i + 1) xs)) (subst (λ (l : List Position). AreKnownProposals s rs (map position_of l)) next c.loop-position.invariant.known)).0

pub emit_position-requires-clause-room : goal.emit_position-requires-clause-room
emit_position-requires-clause-room c =
    let rs = map proposal_of c.args.proposals.now in
    let xs = c.args.positions.now in
    let i = c.loop-position.position-index in
    let x = c.position-item.result in
    let out = c.loop-position.out in
    let next : drop i xs ≡ x ∷ drop (i + 1) xs = drop_item xs i x (omega arith) c.position-item.is in
    let room : length out.consts.items + proposals_nodes rs (position_of x ∷ map position_of (drop (i + 1) xs)) < 65536 = subst (λ (l : List Position). length out.consts.items + proposals_nodes rs (map position_of l) < 65536) next c.loop-position.invariant.room in
    omega (arith, room, nodes_first rs (position_of x) (map position_of (drop (i + 1) xs)))

pub emit_position-requires-clause-short : goal.emit_position-requires-clause-short
emit_position-requires-clause-short c =
    let rs = map proposal_of c.args.proposals.now in
    let xs = c.args.positions.now in
    let i = c.loop-position.position-index in
    let x = c.position-item.result in
    let out = c.loop-position.out in
    let next : drop i xs ≡ x ∷ drop (i + 1) xs = drop_item xs i x (omega arith) c.position-item.is in
    let short : length out.instrs.items + proposals_extent rs (position_of x ∷ map position_of (drop (i + 1) xs)) < 65536 = subst (λ (l : List Position). length out.instrs.items + proposals_extent rs (map position_of l) < 65536) next c.loop-position.invariant.short in
    omega (arith, short, extent_first rs (position_of x) (map position_of (drop (i + 1) xs)))

pub loop-position-preserved : goal.loop-position-preserved
loop-position-preserved c =
    let s = c.args.scope.now in
    let types = c.args.scope.now.types in
    let rs = map proposal_of c.args.proposals.now in
    let xs = c.args.positions.now in
    let i = c.loop-position.position-index in
    let x = c.position-item.result in
    let rest = map position_of (drop (i + 1) xs) in
    let out = c.loop-position.out in
    let c0 = listing types out in
    let c1 = listing types c.emit_position.new.out in
    let inv = c.loop-position.invariant in
    let next : drop i xs ≡ x ∷ drop (i + 1) xs = drop_item xs i x (omega arith) c.position-item.is in
    let known = known_first s rs (position_of x) rest (subst (λ (l : List Position). AreKnownProposals s rs (map position_of l)) next inv.known) in
    let room : length out.consts.items + proposals_nodes rs (position_of x ∷ rest) < 65536 = subst (λ (l : List Position). length out.consts.items + proposals_nodes rs (map position_of l) < 65536) next inv.room in
    let short : length out.instrs.items + proposals_extent rs (position_of x ∷ rest) < 65536 = subst (λ (l : List Position). length out.instrs.items + proposals_extent rs (map position_of l) < 65536) next inv.short in
    let y = c.in_ok-emit_position.ensures in
    let long : length c.emit_position.new.out.instrs.items ≡ length out.instrs.items + proposals_extent rs (position_of x ∷ []) = proposals_long c1 s rs (position_of x ∷ []) (length c0.instrs) (length c1.instrs) y.has in
    record {
      known = known.1;
      room = omega (arith, room, nodes_first rs (position_of x) rest, y.few, length-map out.consts.items plain, length-map c.emit_position.new.out.consts.items plain);
      short = omega (arith, short, extent_first rs (position_of x) rest, long);
      rest = λ new h. inv.rest new (subst (λ (l : List Position). AddsProposals c0 new s rs (map position_of l)) (sym next) (adds_position c0 c1 new s rs (position_of x) rest y h));
    }

pub returns : goal.returns
returns c =
    let s = c.args.scope.now in
    let types = c.args.scope.now.types in
    let rs = map proposal_of c.args.proposals.now in
    let xs = c.args.positions.now in
    let out = listing types c.loop-position.out in
    let none = drop_all c.loop-position.position-index xs (omega arith) in
    c.loop-position.invariant.rest out (subst (λ (l : List Position). AddsProposals out out s rs (map position_of l)) (sym none) (adds_no_proposal out s rs))
