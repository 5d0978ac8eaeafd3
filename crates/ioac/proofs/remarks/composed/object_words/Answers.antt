use Rattle.std.proofs.Common.{◌≡◌, None, string_bytes, subst}
use Rattle.ioac.specs.Composed.{own_words}
use Rattle.ioac.specs.Remarks.{IsProgramOf}
use Rattle.ioac.proofs.remarks.composed.object_words.Goals as goal

pub returns-in_ok-own_words-in-Some : goal.returns-in_ok-own_words-in-Some
returns-in_ok-own_words-in-Some c = (
  c.in-Some.program,
  subst (IsProgramOf c.args.object.now None) c.in-Some.is c.in_ok-program.ensures,
  subst (λ x. string_bytes c.in_ok-own_words-in-Some.field-0 ≡ own_words x) c.name.ensures c.in_ok-own_words-in-Some.ensures,
)
