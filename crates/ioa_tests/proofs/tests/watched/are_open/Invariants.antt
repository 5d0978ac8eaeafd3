use Rattle.std.proofs.Common.{◌≡◌, All, false, take}
use Rattle.ioa_monitor.specs.Monitoring.{hides}
use Rattle.ioa_tests.proofs.tests.watched.are_open.Given as goal

-- those so far hide nothing
abbrev pub invariant-loop-program : goal.invariant-loop-program
invariant-loop-program l = All (λ p. hides p ≡ false) (take l.program-index l.programs)
