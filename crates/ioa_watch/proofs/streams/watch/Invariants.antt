use Rattle.std.proofs.Common.{◌≡◌, ◌≤◌, ◌+◌, ◌-◌, ◌^◌, min, ℕ, List, IfSome, length}
use Rattle.std.specs.Io.KnownBytes.{Appends}
use Rattle.ioa_value.specs.Actions.{Act}
use Rattle.ioa_device.specs.LineReading.{AreTaken, IsOver, IsWithin, rest, to_come}
use Rattle.ioa_watch.specs.Streaming.{HasCome}
use Rattle.ioa_watch.specs.Streams.{told}
use Rattle.ioa_watch.proofs.streams.watch.Given as goal

abbrev pub invariant-loop-turn : goal.invariant-loop-turn
invariant-loop-turn g l = record {
  within : IsWithin l.lines;
  over : IsOver (g.R.Read.remaining l.input) l.lines;
  read : g.R.Device.failure_count l.input ≡ g.R.Device.failure_count l.fn.input;
  wrote : g.W.Device.failure_count l.output ≡ g.W.Device.failure_count l.fn.output;
  counted : min (l.turn + length (rest l.lines)) (2 ^ 64 - 1) ≤ g.R.InputDevice.given_count l.input;
  come : (ls : List (List ℕ)) × (acts : List Act) × HasCome l.fn.json l.fn.types l.fn.programs l.fn.first ls acts l.stream × (length ls ≡ l.turn)
      × IfSome (g.R.Read.remaining l.fn.input) (λ bytes. AreTaken bytes ls (to_come (g.R.Read.remaining l.input) l.lines))
      × Appends (g.W.Write.contents l.fn.output) (g.W.Write.contents l.output) (told l.fn.json l.fn.programs acts);
}
