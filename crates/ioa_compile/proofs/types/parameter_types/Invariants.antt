use Rattle.std.proofs.Common.{◌≡◌, ◌++◌, map, drop}
use Rattle.ioa_value.specs.Plain.{number}
use Rattle.ioa_value.specs.Positions.{domain_of}
use Rattle.ioa_compile.specs.Tables.{parameter_types}
use Rattle.ioa_compile.proofs.types.parameter_types.Given as goal

abbrev pub invariant-loop-position : goal.invariant-loop-position
invariant-loop-position l =
    map number l.found.items ++ parameter_types (map domain_of (drop l.position-index l.positions)) ≡ parameter_types (map domain_of l.positions)
