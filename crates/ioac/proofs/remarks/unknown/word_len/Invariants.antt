use Rattle.std.proofs.Common.{◌≡◌, ◌+◌, drop}
use Rattle.std.specs.List.{position_or_len}
use Rattle.ioac.specs.Unknown.{is_between}
use Rattle.ioac.proofs.remarks.unknown.word_len.Given as goal

-- none so far is one
abbrev pub invariant-loop-at : goal.invariant-loop-at
invariant-loop-at l = position_or_len is_between l.text ≡ l.at + position_or_len is_between (drop l.at l.text)
