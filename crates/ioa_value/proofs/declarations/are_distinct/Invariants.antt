use Rattle.std.proofs.Common.{◌≡◌, map, drop}
use Rattle.ioa_value.specs.Table.{distinct, field_names}
use Rattle.ioa_value.specs.Shapes.{tuple_field}
use Rattle.ioa_value.proofs.declarations.are_distinct.Given as goal

abbrev pub invariant-loop-i : goal.invariant-loop-i
invariant-loop-i l = distinct (field_names (map tuple_field (drop l.i l.fields))) ≡ distinct (field_names (map tuple_field l.fields))
