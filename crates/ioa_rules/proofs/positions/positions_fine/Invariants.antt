use Rattle.std.proofs.Common.{◌≡◌, map, drop}
use Rattle.std.specs.List.{list_all}
use Rattle.ioa_tree.specs.View.{position_of}
use Rattle.ioa_tree.specs.WellFormed as well_formed
use Rattle.ioa_rules.specs.KnownTypes.{early}
use Rattle.ioa_rules.specs.Scopes.{context}
use Rattle.ioa_rules.proofs.positions.positions_fine.Given as goal

abbrev pub invariant-loop-position : goal.invariant-loop-position
invariant-loop-position l =
    let test = well_formed.position_fine (early l.scope.known) (context l.scope) in
    list_all test (map position_of (drop l.position-index l.positions)) ≡ list_all test (map position_of l.positions)
