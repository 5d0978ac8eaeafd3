use Rattle.std.proofs.Common.{◌≡◌, map, drop, length}
use Rattle.ioa_value.specs.Positions as spec
use Rattle.ioa_value.specs.Positions.{domain_of}
use Rattle.ioa_value.proofs.positions.all_meet.Given as goal

abbrev pub invariant-loop-i : goal.invariant-loop-i
invariant-loop-i l =
    (length l.a ≡ length l.b)
    × (spec.all_meet l.types (map domain_of (drop l.i l.a)) (map domain_of (drop l.i l.b)) ≡ spec.all_meet l.types (map domain_of l.a) (map domain_of l.b))
