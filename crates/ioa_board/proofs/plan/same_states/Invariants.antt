use Rattle.std.proofs.Common.{◌≡◌, take}
use Rattle.ioa_system.specs.Participants.{taken}
use Rattle.ioa_board.proofs.plan.same_states.Given as goal

abbrev pub invariant-loop-k : goal.invariant-loop-k
invariant-loop-k l = taken (take l.k l.numbers) l.states ≡ take l.k l.copied
