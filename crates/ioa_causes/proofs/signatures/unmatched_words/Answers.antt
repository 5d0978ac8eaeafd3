use Rattle.std.proofs.Common.{string_bytes, subst}
use Rattle.std.specs.Prelude.{IfSome}
use Rattle.ioa_causes.specs.Words.{TellsMatch}
use Rattle.ioa_causes.proofs.signatures.unmatched_words.Goals as goal

pub returns-in-loop-place : goal.returns-in-loop-place
returns-in-loop-place c = (
  c.loop-place.place,
  c.in-Some.automaton.now,
  c.in-Some.ensures,
  subst (λ o. IfSome o (λ words. TellsMatch c.args.index c.in-Some.automaton.now (string_bytes words))) c.in-Some-2.is c.in_ok-words.ensures,
)
