use Rattle.std.proofs.Common.{◌≡◌, ◌++◌, drop}
use Rattle.ioa_system.specs.Found.{placed}
use Rattle.ioa_system.proofs.steps.placed_in_order.Given as goal

abbrev pub invariant-loop-i : goal.invariant-loop-i
invariant-loop-i l = l.in_order.items ++ placed l.i (drop l.i l.participants) ≡ placed 0 l.participants
