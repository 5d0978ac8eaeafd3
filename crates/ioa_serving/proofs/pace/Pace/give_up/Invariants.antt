use Rattle.std.proofs.Common.{◌≡◌, ◌++◌, drop, map, take}
use Rattle.ioa_serving.specs.Pacing.{given_up}
use Rattle.ioa_serving.proofs.pace.Pace.give_up.Given as goal

abbrev pub invariant-loop-i : goal.invariant-loop-i
invariant-loop-i l = l.self.workers.items ≡ map (given_up l.who) (take l.i l.initial.self.workers.items) ++ drop l.i l.initial.self.workers.items
