use Rattle.std.proofs.Common.{◌≡◌, drop, map}
use Rattle.std.specs.List.{list_any}
use Rattle.ioa_system.specs.Logs.{log_entry}
use Rattle.ioac.specs.Idle.{is_of}
use Rattle.ioac.proofs.remarks.idle.is_performed.Given as goal

-- none so far is one
abbrev pub invariant-loop-entry : goal.invariant-loop-entry
invariant-loop-entry l =
    list_any (is_of l.who l.name) (map log_entry (drop l.entry-index l.log)) ≡ list_any (is_of l.who l.name) (map log_entry l.log)
