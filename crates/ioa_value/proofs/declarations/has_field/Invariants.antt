use Rattle.std.proofs.Common.{◌≡◌, map, drop}
use Rattle.ioa_value.specs.Table.{contains, field_names}
use Rattle.ioa_value.specs.Shapes.{tuple_field}
use Rattle.ioa_value.proofs.declarations.has_field.Given as goal

abbrev pub invariant-loop-i : goal.invariant-loop-i
invariant-loop-i l =
    contains (field_names (map tuple_field (drop l.i l.fields))) l.name ≡ contains (field_names (map tuple_field l.fields)) l.name
