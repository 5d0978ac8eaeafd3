use Rattle.std.proofs.Common.{◌≡◌}
use Rattle.ioa_value.specs.Actions.{act_of}
use Rattle.ioa_system.proofs.Stepping.{asks_from}
use Rattle.ioa_system.proofs.steps.asked.Given as goal

abbrev pub invariant-loop-participant : goal.invariant-loop-participant
invariant-loop-participant l = asks_from (act_of l.action) l.states l.participants l.participant-index ≡ asks_from (act_of l.action) l.states l.participants 0
