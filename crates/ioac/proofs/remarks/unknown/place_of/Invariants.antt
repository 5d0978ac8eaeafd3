use Rattle.std.proofs.Common.{◌≡◌, ◌+◌, ◌==◌, drop}
use Rattle.std.specs.List.{position_or_len}
use Rattle.ioac.proofs.remarks.unknown.place_of.Given as goal

-- none so far is one
abbrev pub invariant-loop-at : goal.invariant-loop-at
invariant-loop-at l = position_or_len (λ b. b == l.mark) l.text ≡ l.at + position_or_len (λ b. b == l.mark) (drop l.at l.text)
