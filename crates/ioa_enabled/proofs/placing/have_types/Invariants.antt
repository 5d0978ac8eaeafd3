use Rattle.std.proofs.Common.{◌≡◌, ◌↔◌, drop, length, map}
use Rattle.ioa_value.specs.Plain.{number, plain}
use Rattle.ioa_value.specs.Typing.{HaveTypes}
use Rattle.ioa_enabled.proofs.placing.have_types.Given as goal

-- the values are of these types just where those that are left are
abbrev pub invariant-loop-i : goal.invariant-loop-i
invariant-loop-i l =
    (length l.values ≡ length l.own)
    × (HaveTypes l.types (map plain (drop l.i l.values)) (map number (drop l.i l.own)) ↔ HaveTypes l.types (map plain l.values) (map number l.own))
