use Rattle.std.proofs.Common.{◌≡◌, map, take}
use Rattle.ioa_run.specs.Locals.{known, with_sites}
use Rattle.ioa_run.proofs.Choosing.{local_in}
use Rattle.ioa_run.proofs.locals.own_locals.Given as goal

-- those among the entries so far
abbrev pub invariant-loop-entry : goal.invariant-loop-entry
invariant-loop-entry l = map known l.own.items ≡ map (with_sites l.program) (local_in (take l.entry-index l.entries))
