use Rattle.ioa_value.specs.Actions.{act_of}
use Rattle.ioa_system.proofs.Stepping.{ActsOn}
use Rattle.ioa_system.proofs.steps.effects.Given as goal

abbrev pub invariant-loop-i : goal.invariant-loop-i
invariant-loop-i l = ActsOn (act_of l.action) l.states l.participants l.drafts l.i
