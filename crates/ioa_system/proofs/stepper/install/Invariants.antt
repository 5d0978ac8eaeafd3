use Rattle.ioa_system.proofs.Drafting.{Installs}
use Rattle.ioa_system.proofs.stepper.install.Given as goal

abbrev pub invariant-loop-i : goal.invariant-loop-i
invariant-loop-i l = Installs l.fn.states l.drafts l.participants l.i l.states
