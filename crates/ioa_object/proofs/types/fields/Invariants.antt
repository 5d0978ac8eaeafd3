use Rattle.std.proofs.Common.{◌≡◌, ◌-◌, map}
use Rattle.ioa_value.specs.Shapes.{tuple_field}
use Rattle.ioa_value.specs.declared.limits.TheConstants.{LIMITS as most}
use Rattle.ioa_bytes.specs.Items.{list_at, items_at}
use Rattle.ioa_object.specs.Reading.{field_at}
use Rattle.ioa_object.proofs.types.fields.Given as goal

abbrev pub invariant-loop : goal.invariant-loop
invariant-loop l =
    list_at 1 most.fields (field_at l.fn.count) l.fn.cursor ≡ items_at (field_at l.fn.count) (map tuple_field l.found.items) (l.length - l.counter) l.cursor
