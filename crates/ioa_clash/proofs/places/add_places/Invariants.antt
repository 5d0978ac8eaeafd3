use Rattle.std.proofs.Common.{map, ◌++◌}
use Rattle.ioa_clash.specs.Clashes.{signed_of}
use Rattle.ioa_clash.specs.Index.{entry_name, named_among, place_of, under}
use Rattle.ioa_clash.proofs.IndexLemmas.{LeavesFrom}
use Rattle.ioa_clash.proofs.places.add_places.Given as goal

abbrev pub invariant-loop-k : goal.invariant-loop-k
invariant-loop-k l =
    let es = map signed_of l.entries in
    LeavesFrom entry_name place_of l.index (λ x. under l.initial.index x ++ named_among entry_name place_of l.component 0 es x) l.component l.k es
