use Rattle.std.proofs.Common.{◌≡◌, map, drop, length}
use Rattle.ioa_value.specs.Plain.{number}
use Rattle.ioa_value.specs.Table.{types_of}
use Rattle.ioa_value.specs.Shapes.{tuple_field}
use Rattle.ioa_value.specs.Operators.{are_these}
use Rattle.ioa_value.proofs.parts.are_of.Given as goal

abbrev pub invariant-loop-i : goal.invariant-loop-i
invariant-loop-i l =
    (length l.operands ≡ length l.fields)
    × (are_these (map number (drop l.i l.operands)) (types_of (map tuple_field (drop l.i l.fields))) ≡ are_these (map number l.operands) (types_of (map tuple_field l.fields)))
