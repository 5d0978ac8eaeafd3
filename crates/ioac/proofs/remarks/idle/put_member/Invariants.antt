use Rattle.std.proofs.Common.{◌≡◌, ◌++◌, map, take, string_bytes}
use Rattle.std.specs.List.{flat_map}
use Rattle.ioa_system.specs.Logs.{log_entry}
use Rattle.ioac.specs.Idle.{entry_idle}
use Rattle.ioac.proofs.remarks.idle.put_member.Given as goal

-- of the entries so far
abbrev pub invariant-loop-entry : goal.invariant-loop-entry
invariant-loop-entry l =
    string_bytes l.text ≡ string_bytes l.initial.text ++ flat_map (entry_idle (map log_entry l.log) l.who (string_bytes l.member.name)) (take l.entry-index l.member.automaton.entries.items)
