use Rattle.std.proofs.Common.{◌≡◌, drop}
use Rattle.ioa_tree.specs.View.{name_of}
use Rattle.ioa_tree.specs.WellFormed.{type_in, context_of}
use Rattle.ioa_rules.specs.Fields.{parameters}
use Rattle.ioa_rules.specs.KnownTypes.{early}
use Rattle.ioa_rules.proofs.positions.find_parameter.Given as goal

abbrev pub invariant-loop-position : goal.invariant-loop-position
invariant-loop-position l =
    type_in (context_of (early l.known) (parameters (drop l.position-index l.positions))) (name_of l.name)
    ≡ type_in (context_of (early l.known) (parameters l.positions)) (name_of l.name)
