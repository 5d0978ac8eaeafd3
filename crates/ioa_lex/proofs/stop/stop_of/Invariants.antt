use Rattle.std.proofs.Common.{◌≤◌, ◌-◌, length}
use Rattle.ioa_lex.proofs.Stopping.{IsPassed}
use Rattle.ioa_lex.proofs.stop.stop_of.Given as goal

abbrev pub invariant-loop-at : goal.invariant-loop-at
invariant-loop-at l = record { within : l.at ≤ length l.text; passed : IsPassed l.text l.at }

abbrev pub decreases-loop-at : goal.decreases-loop-at
decreases-loop-at l = length l.text - l.at
