use Rattle.std.proofs.Common.{◌≡◌, ◌≤◌, ◌-◌, ◌++◌, length, take, drop}
use Rattle.ioa_value.specs.Tokens.{word, after_word}
use Rattle.ioa_value.proofs.tokens.split_word.Given as goal

abbrev pub invariant-loop-at : goal.invariant-loop-at
invariant-loop-at l = record {
  within : l.at ≤ length l.text;
  before : take l.at l.text ++ word (drop l.at l.text) ≡ word l.text;
  after : after_word (drop l.at l.text) ≡ after_word l.text;
}

abbrev pub decreases-loop-at : goal.decreases-loop-at
decreases-loop-at l = length l.text - l.at
