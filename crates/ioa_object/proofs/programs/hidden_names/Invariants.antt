use Rattle.std.proofs.Common.{◌≡◌, ◌-◌, map}
use Rattle.std.specs.String.{string_bytes}
use Rattle.ioa_compile.specs.Shown.{member_code}
use Rattle.ioa_value.specs.declared.limits.TheConstants.{LIMITS as most}
use Rattle.ioa_bytes.specs.Items.{list_at, items_at}
use Rattle.ioa_object.specs.Reading.{hidden_at}
use Rattle.ioa_object.proofs.programs.hidden_names.Given as goal

abbrev pub invariant-loop : goal.invariant-loop
invariant-loop l = list_at 0 most.hidden (hidden_at (map member_code l.members)) l.fn.cursor ≡ items_at (hidden_at (map member_code l.members)) (map string_bytes l.found.items) (l.count - l.counter) l.cursor
