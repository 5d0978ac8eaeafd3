use Rattle.std.proofs.Common.{◌≡◌, Some, inr, subst}
use Rattle.ioa_causes.specs.Words.{transition_named}
use Rattle.ioa_causes.proofs.signatures.entry_words.Goals as goal

pub returns-in_ok-other_words-in-Some : goal.returns-in_ok-other_words-in-Some
returns-in_ok-other_words-in-Some c = inr (
  c.in-Some.transition.now,
  c.line_of.result,
  subst (λ x. transition_named x c.args.automaton.now.transitions.items ≡ Some c.in-Some.transition.now) c.as_str.ensures.value c.in-Some.ensures,
  c.in_ok-other_words-in-Some.ensures,
)
