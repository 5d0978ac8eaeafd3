use Rattle.std.proofs.Common.{◌≡◌, ◌-◌, map}
use Rattle.ioa_compile.specs.Shown.{member_code}
use Rattle.ioa_value.specs.declared.limits.TheConstants.{LIMITS as most}
use Rattle.ioa_bytes.specs.Items.{list_at, items_at}
use Rattle.ioa_object.specs.Reading.{component_at}
use Rattle.ioa_object.proofs.components.components.Given as goal

abbrev pub invariant-loop : goal.invariant-loop
invariant-loop l = list_at 1 most.components (component_at l.loops l.types) l.fn.cursor ≡ items_at (component_at l.loops l.types) (map member_code l.found.items) (l.count - l.counter) l.cursor
