use Rattle.std.proofs.Common.{inl, subst}
use Rattle.std.specs.Prelude.{IfSome}
use Rattle.ioa_causes.specs.Words.{IsLineBefore}
use Rattle.ioa_causes.proofs.names.repeated_words.Goals as goal

-- the line that was found is told
pub returns-in_ok-line_words-in-Some : goal.returns-in_ok-line_words-in-Some
returns-in_ok-line_words-in-Some c = inl (
  c.in-Some.line,
  subst (λ o. IfSome o (IsLineBefore c.args.tokens.now c.args.index c.args.name.now)) c.in-Some.is c.line_before.ensures,
  c.in_ok-line_words-in-Some.ensures,
)
