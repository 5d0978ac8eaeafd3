use Rattle.std.proofs.Common.{◌≡◌, drop}
use Rattle.ioa_tree.specs.Instances.{field_names}
use Rattle.ioa_tree.specs.View.{name_of}
use Rattle.ioa_tree.specs.WellFormed as well_formed
use Rattle.ioa_rules.specs.Fields.{parameters}
use Rattle.ioa_rules.proofs.positions.parameter_named.Given as goal

abbrev pub invariant-loop-position : goal.invariant-loop-position
invariant-loop-position l =
    well_formed.contains (field_names (parameters (drop l.position-index l.positions))) (name_of l.name)
    ≡ well_formed.contains (field_names (parameters l.positions)) (name_of l.name)
