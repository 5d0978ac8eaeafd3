use Rattle.std.proofs.Common.{◌≡◌, ◌||◌, map, drop}
use Rattle.std.specs.List.{list_all}
use Rattle.ioa_tree.specs.Tree.{FieldTree}
use Rattle.ioa_tree.specs.View.{transition_of}
use Rattle.ioa_tree.specs.WellFormed as well_formed
use Rattle.ioa_rules.specs.Fields.{parameters}
use Rattle.ioa_rules.specs.KnownTypes.{early}
use Rattle.ioa_rules.proofs.transitions.all_proposed.Given as goal

abbrev pub invariant-loop-position : goal.invariant-loop-position
invariant-loop-position l =
    let test = λ (f : FieldTree). well_formed.is_tried (early l.known) f || well_formed.contains (map (λ p. p.name) (transition_of l.transition).proposals) f.name in
    list_all test (parameters (drop l.position-index l.entry.positions.items)) ≡ list_all test (parameters l.entry.positions.items)
