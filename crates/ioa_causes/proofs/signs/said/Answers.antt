use Rattle.std.proofs.Common.{string_bytes, subst}
use Rattle.std.proofs.lemmas.List.{take_rest}
use Rattle.ioa_lex.specs.Stops.{IsStop}
use Rattle.ioa_causes.specs.Words.{TellsFront}
use Rattle.ioa_causes.proofs.signs.said.Goals as goal

pub returns-in_ok-front_words-in-Some : goal.returns-in_ok-front_words-in-Some
returns-in_ok-front_words-in-Some c = (
  c.in-Some.at,
  subst (IsStop c.args.source.now) c.in-Some.is c.in_ok-at.ensures.place,
  subst (λ front. TellsFront front (string_bytes c.in_ok-front_words-in-Some.field-0)) (take_rest c.args.source.now c.in-Some.at) c.in_ok-front_words-in-Some.ensures,
)
