use Rattle.std.proofs.Common.{◌≡◌, true, ◌<◌, ◌≤◌, ◌++◌, ◌+◌, ◌-◌, ◌^◌, min, ℕ, List, Some, IfSome, length}
use Rattle.ioa_device.specs.LineReading.{HasLine, IsLineText, IsOver, IsWithin, rest, to_come}
use Rattle.ioa_device.proofs.line_reader.LineReader.next.Given as goal

abbrev pub invariant-loop-turn : goal.invariant-loop-turn
invariant-loop-turn g l = record {
  within : IsWithin l.self;
  over : IsOver (g.R.Read.remaining l.input) l.self;
  passed : g.R.Device.failure_count l.input ≡ g.R.Device.failure_count l.fn.input;
  turns : l.turn ≤ g.R.InputDevice.given_count l.input;
  counted : (n : ℕ) → min (n + length (rest l.fn.self)) (2 ^ 64 - 1) ≤ g.R.InputDevice.given_count l.fn.input
      → min (n + (length l.self.line.items + length (rest l.self))) (2 ^ 64 - 1) ≤ g.R.InputDevice.given_count l.input;
  some : 0 < length (rest l.fn.self) → 0 < length l.self.line.items + length (rest l.self);
  unended : IsLineText l.self.line.items;
  first : HasLine l.fn.self → (l.turn ≡ 0) × HasLine l.self × (l.input ≡ l.fn.input);
  stays : l.fn.self.over ≡ true → l.self.over ≡ true;
  taken : IfSome (to_come (g.R.Read.remaining l.fn.input) l.fn.self) (λ all. (others : List ℕ)
      × (to_come (g.R.Read.remaining l.input) l.self ≡ Some others) × (all ≡ l.self.line.items ++ others));
}
