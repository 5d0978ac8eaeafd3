use Rattle.std.proofs.Common.{◌≡◌, drop, map}
use Rattle.std.specs.List.{list_any}
use Rattle.ioa_value.specs.Actions.{act_of}
use Rattle.ioa_compile.specs.Shown.{entry_code}
use Rattle.ioa_compile.specs.Tables.{is_in}
use Rattle.ioa_serving.proofs.links.takes_part.Given as goal

abbrev pub invariant-loop-entry : goal.invariant-loop-entry
invariant-loop-entry l =
    list_any (is_in l.types (act_of l.action)) (map entry_code (drop l.entry-index l.member.entries.items))
    ≡ list_any (is_in l.types (act_of l.action)) (map entry_code l.member.entries.items)
