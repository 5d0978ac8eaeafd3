use Rattle.std.proofs.Common.{◌≡◌, map, drop, length}
use Rattle.ioa_value.specs.Plain.{plain}
use Rattle.ioa_value.specs.Positions as spec
use Rattle.ioa_value.specs.Positions.{domain_of}
use Rattle.ioa_value.proofs.positions.all_take.Given as goal

abbrev pub invariant-loop-i : goal.invariant-loop-i
invariant-loop-i l =
    (length l.positions ≡ length l.values)
    × (spec.all_take l.types (map domain_of (drop l.i l.positions)) (map plain (drop l.i l.values))
    ≡ spec.all_take l.types (map domain_of l.positions) (map plain l.values))
