use Rattle.ioa_causes.proofs.signs.letter_at.Given as goal

-- nothing is kept
abbrev pub invariant-loop-size : goal.invariant-loop-size
invariant-loop-size l = Unit {0}
