use Rattle.ioa_run.proofs.Ending.{DismissesFirst}
use Rattle.ioa_run.proofs.alone.dismiss.Given as goal

abbrev pub invariant-loop-who : goal.invariant-loop-who
invariant-loop-who l = DismissesFirst l.who l.fn.room l.ended l.room
