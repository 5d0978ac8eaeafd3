use Rattle.std.proofs.Common.{◌≡◌, map, take}
use Rattle.ioa_value.specs.Plain.{number}
use Rattle.ioa_value.specs.Positions.{domain_of, domain_type}
use Rattle.ioa_compile.proofs.types.position_types.Given as goal

abbrev pub invariant-loop-position : goal.invariant-loop-position
invariant-loop-position l = map number l.found.items ≡ map (λ p. domain_type (domain_of p)) (take l.position-index l.positions)
