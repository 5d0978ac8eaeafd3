use Rattle.std.proofs.Common.{◌≡◌, ◌++◌, map, take}
use Rattle.std.specs.List.{flat_map}
use Rattle.ioa_value.specs.Shapes.{tuple_field}
use Rattle.ioa_object.specs.Spelling.{field}
use Rattle.ioa_object.proofs.writing.put_fields.Given as goal

abbrev pub invariant-loop-field : goal.invariant-loop-field
invariant-loop-field l = l.out.items ≡ l.initial.out.items ++ flat_map field (map tuple_field (take l.field-index l.fields))
