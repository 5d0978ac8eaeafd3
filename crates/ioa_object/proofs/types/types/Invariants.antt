use Rattle.std.proofs.Common.{◌≡◌, ◌+◌, ◌-◌, length}
use Rattle.ioa_value.specs.Table.{all_names}
use Rattle.ioa_object.specs.Reading.{types_at, declaration_at}
use Rattle.ioa_bytes.specs.Items.{items_at}
use Rattle.ioa_object.proofs.types.types.Given as goal

abbrev pub invariant-loop : goal.invariant-loop
invariant-loop l = record {
  read : types_at l.fn.cursor ≡ items_at declaration_at l.declarations (l.count - l.counter) l.cursor;
  taken : l.taken ≡ all_names l.declarations;
  long : length l.declarations ≡ 2 + l.counter;
}
