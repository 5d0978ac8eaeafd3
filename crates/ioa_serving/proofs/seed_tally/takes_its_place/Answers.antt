use Rattle.std.proofs.Common.{sym, ◌∙◌}
use Rattle.std.proofs.lemmas.Bool.{false≢true}
use Rattle.ioa_serving.proofs.seed_tally.takes_its_place.Goals as goal

pub returns-then-not-is_refused : goal.returns-then-not-is_refused
returns-then-not-is_refused c = (
  λ never. absurd (false≢true never),
  λ h. absurd (false≢true (sym c.if-not-is_refused.true ∙ c.is_refused.ensures ∙ h.0)),
)

pub returns : goal.returns
returns c = (
  λ less. (sym c.is_refused.ensures ∙ c.if-not-is_refused.false, c.is_shorter.ensures.0 less),
  λ h. c.is_shorter.ensures.1 h.1,
)
