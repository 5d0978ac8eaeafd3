use Rattle.std.proofs.Common.{◌≡◌, ◌++◌, drop, map, string_bytes}
use Rattle.ioa_system.specs.Logs.{log_entry}
use Rattle.ioac.specs.Idle.{idle_text}
use Rattle.ioac.proofs.remarks.idle.put_idle.Given as goal

-- what is put so far, and of the components that are left, is that of all
abbrev pub invariant-loop-member : goal.invariant-loop-member
invariant-loop-member l = record {
  number : l.who ≡ l.member-index;
  text : string_bytes l.text ++ idle_text (map log_entry l.log) l.who (drop l.member-index l.members)
      ≡ string_bytes l.initial.text ++ idle_text (map log_entry l.log) 0 l.members;
}
