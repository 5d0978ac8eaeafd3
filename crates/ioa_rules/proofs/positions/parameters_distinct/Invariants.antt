use Rattle.std.proofs.Common.{◌≡◌, length}
use Rattle.ioa_tree.specs.Instances.{field_names}
use Rattle.ioa_tree.specs.WellFormed as well_formed
use Rattle.ioa_rules.specs.Fields.{parameters}
use Rattle.ioa_rules.proofs.positions.parameters_distinct.Given as goal

abbrev pub invariant-loop-rest : goal.invariant-loop-rest
invariant-loop-rest l = well_formed.distinct (field_names (parameters l.rest)) ≡ well_formed.distinct (field_names (parameters l.positions))

abbrev pub decreases-loop-rest : goal.decreases-loop-rest
decreases-loop-rest l = length l.rest
