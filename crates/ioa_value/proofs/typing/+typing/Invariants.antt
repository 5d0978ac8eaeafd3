use Rattle.std.proofs.Common.{◌≡◌, map, drop, length}
use Rattle.ioa_value.specs.Plain.{plain_all}
use Rattle.ioa_value.specs.Table.{types_of}
use Rattle.ioa_value.specs.Shapes.{tuple_field}
use Rattle.ioa_value.specs.Typing.{parts_are, items_are}
use Rattle.ioa_value.proofs.typing.+typing.Given as goal

abbrev pub invariant-has_items-loop-value : goal.invariant-has_items-loop-value
invariant-has_items-loop-value l =
    items_are l.types (plain_all (drop l.value-index l.values)) l.ty.0 ≡ items_are l.types (plain_all l.values) l.ty.0

abbrev pub invariant-has_parts-loop-i : goal.invariant-has_parts-loop-i
invariant-has_parts-loop-i l =
    (length l.values ≡ length l.fields) × (parts_are l.types (plain_all (drop l.i l.values)) (types_of (map tuple_field (drop l.i l.fields))) ≡ parts_are l.types (plain_all l.values) (types_of (map tuple_field l.fields)))
