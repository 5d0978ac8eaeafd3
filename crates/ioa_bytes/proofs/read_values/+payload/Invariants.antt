use Rattle.std.proofs.Common.{◌≡◌, ◌+◌, ◌-◌, ◌*◌, [], map, drop}
use Rattle.ioa_value.specs.Plain.{plain}
use Rattle.ioa_value.specs.Shapes.{tuple_field}
use Rattle.ioa_value.specs.Table.{types_of}
use Rattle.ioa_bytes.specs.Items.{list_at, items_at, parts_at, payload_in}
use Rattle.ioa_bytes.proofs.read_values.+payload.Given as goal

abbrev pub decreases-items : goal.decreases-items
decreases-items l = 2 * l.ty.0

abbrev pub decreases-parts : goal.decreases-parts
decreases-parts l = 2 * l.ty.0

abbrev pub decreases-payload : goal.decreases-payload
decreases-payload l = 2 * l.ty.0 + 1

abbrev pub invariant-items-loop : goal.invariant-items-loop
invariant-items-loop l =
    list_at 0 l.most (λ _. payload_in l.fn.ty.0 l.types l.of.0) l.fn.cursor
    ≡ items_at (λ _. payload_in l.fn.ty.0 l.types l.of.0) (map plain l.found.items) (l.count - l.counter) l.cursor

abbrev pub invariant-parts-loop-i : goal.invariant-parts-loop-i
invariant-parts-loop-i l =
    parts_at (payload_in l.fn.ty.0 l.types) [] (types_of (map tuple_field l.fields)) l.fn.cursor
    ≡ parts_at (payload_in l.fn.ty.0 l.types) (map plain l.found.items) (drop l.i (types_of (map tuple_field l.fields))) l.cursor
