use Rattle.std.proofs.Common.{◌≡◌, length}
use Rattle.ioa_value.specs.Tokens as tokens
use Rattle.ioa_account.proofs.quoted.after_blanks.Given as goal

-- behind the blanks of what is left stands what stands behind all
abbrev pub invariant-loop-rest : goal.invariant-loop-rest
invariant-loop-rest l = tokens.after_blanks l.rest ≡ tokens.after_blanks l.line

abbrev pub decreases-loop-rest : goal.decreases-loop-rest
decreases-loop-rest l = length l.rest
