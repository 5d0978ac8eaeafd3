use Rattle.std.proofs.Common.{◌≡◌, ◌≤◌, ◌+◌, ◌-◌, ◌^◌, min, ℕ, List, IfSome, length}
use Rattle.ioa_device.specs.LineReading.{AreTaken, IsOver, IsWithin, rest, to_come}
use Rattle.ioa_log.specs.Readings.{HasRead}
use Rattle.ioa_replay.proofs.replays.perform_list.Given as goal

abbrev pub invariant-loop-turn : goal.invariant-loop-turn
invariant-loop-turn g l = record {
  within : IsWithin l.lines;
  over : IsOver (g.R.Read.remaining l.input) l.lines;
  passed : g.R.Device.failure_count l.input ≡ g.R.Device.failure_count l.fn.input;
  counted : min (l.turn + length (rest l.lines)) (2 ^ 64 - 1) ≤ g.R.InputDevice.given_count l.input;
  read : (ls : List (List ℕ)) × HasRead l.fn.program ls l.reading × (length ls ≡ l.turn)
      × IfSome (g.R.Read.remaining l.fn.input) (λ bytes. AreTaken bytes ls (to_come (g.R.Read.remaining l.input) l.lines));
}
