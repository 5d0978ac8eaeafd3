use Rattle.std.proofs.Common.{subst}
use Rattle.std.specs.Prelude.{IfSome}
use Rattle.ioa_lex.specs.Lexing.{placed}
use Rattle.ioa_syntax.specs.Stuck.{IsStuckIn}
use Rattle.ioa_causes.proofs.misfits.said.Goals as goal

-- the tokens are those of the text, and the index is where they are stuck
pub returns-in_ok-stuck_words-in-Some : goal.returns-in_ok-stuck_words-in-Some
returns-in_ok-stuck_words-in-Some c = (
  c.tokens_of.result.now,
  c.in-Some.stuck.at,
  c.tokens_of.ensures c.args.source.now (subst (λ o. IfSome o (λ s. IsStuckIn c.args.source.now (placed s.tokens.items) s.at)) c.in-Some.is c.in_ok-stuck.ensures.some),
  c.in_ok-stuck_words-in-Some.ensures,
)
