use Rattle.std.proofs.Common.{◌≡◌, drop, find, map}
use Rattle.ioa_value.specs.Actions.{act_of}
use Rattle.ioa_compile.specs.Shown.{entry_code}
use Rattle.ioa_compile.specs.Tables.{is_in}
use Rattle.ioa_enabled.proofs.guards.entry_of.Given as goal

abbrev pub invariant-loop-entry : goal.invariant-loop-entry
invariant-loop-entry l =
    find (is_in l.member.start.table (act_of l.action)) (map entry_code (drop l.entry-index l.member.entries.items))
    ≡ find (is_in l.member.start.table (act_of l.action)) (map entry_code l.member.entries.items)
