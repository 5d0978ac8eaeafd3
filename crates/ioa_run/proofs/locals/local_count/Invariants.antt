use Rattle.std.proofs.Common.{◌≡◌, ◌+◌, ◌≤◌, drop, length}
use Rattle.ioa_run.proofs.Choosing.{local_in}
use Rattle.ioa_run.proofs.locals.local_count.Given as goal

abbrev pub invariant-loop-entry : goal.invariant-loop-entry
invariant-loop-entry l = (l.count ≤ l.entry-index) × (l.count + length (local_in (drop l.entry-index l.entries)) ≡ length (local_in l.entries))
