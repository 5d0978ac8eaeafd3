use Rattle.std.proofs.Common.{map, All, take}
use Rattle.ioa_value.specs.Positions.{IsDomain, domain_of}
use Rattle.ioa_compile.proofs.rightness.are_positions.Given as goal

abbrev pub invariant-loop-position : goal.invariant-loop-position
invariant-loop-position l = All (IsDomain l.types) (map domain_of (take l.position-index l.positions))
