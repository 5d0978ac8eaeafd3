use Rattle.std.proofs.Common.{◌≡◌, ◌-◌, map}
use Rattle.ioa_compile.specs.Shown.{entry_code}
use Rattle.ioa_value.specs.Plain.{number}
use Rattle.ioa_crash.specs.Limits.{component_limits}
use Rattle.ioa_bytes.specs.Items.{list_at, items_at}
use Rattle.ioa_object.specs.Reading.{entry_at}
use Rattle.ioa_object.proofs.components.entries.Given as goal

abbrev pub invariant-loop : goal.invariant-loop
invariant-loop l = list_at 1 component_limits.entries (entry_at l.loops l.types (map number l.slots)) l.fn.cursor ≡ items_at (entry_at l.loops l.types (map number l.slots)) (map entry_code l.found.items) (l.count - l.counter) l.cursor
