use Rattle.ioa_causes.proofs.signatures.unproposed_words.Given as goal

-- nothing is kept
abbrev pub invariant-loop-place : goal.invariant-loop-place
invariant-loop-place l = Unit {0}
