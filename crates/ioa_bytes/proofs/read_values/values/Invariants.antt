use Rattle.std.proofs.Common.{◌≡◌, ◌-◌, map}
use Rattle.ioa_value.specs.Plain.{plain}
use Rattle.ioa_bytes.specs.Items.{list_at, items_at, value_at}
use Rattle.ioa_bytes.proofs.read_values.values.Given as goal

abbrev pub invariant-loop : goal.invariant-loop
invariant-loop l = list_at 0 l.most (λ _. value_at l.types) l.fn.cursor ≡ items_at (λ _. value_at l.types) (map plain l.found.items) (l.count - l.counter) l.cursor
