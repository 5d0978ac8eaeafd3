use Rattle.std.proofs.Common.{◌≡◌, ◌≤◌, map, take}
use Rattle.ioa_system.specs.Logs.{log_entry}
use Rattle.ioa_run.specs.Tallies.{performed_named}
use Rattle.ioa_serving.proofs.tallies.count_named.Given as goal

-- as many as among the entries so far
abbrev pub invariant-loop-entry : goal.invariant-loop-entry
invariant-loop-entry l = (l.count ≤ l.entry-index) × (l.count ≡ performed_named (map log_entry (take l.entry-index l.entries)) l.who l.name)
