use Rattle.std.proofs.Common.{sym, ◌∙◌}
use Rattle.std.proofs.lemmas.Bool.{false≢true}
use Rattle.ioa_serving.proofs.Sowing.{none_named, unnamed}
use Rattle.ioa_serving.proofs.sown.asks_nothing.Goals as goal

pub returns-then-invariants : goal.returns-then-invariants
returns-then-invariants c = (λ never. absurd (false≢true never), λ h. absurd (false≢true (sym h.1 ∙ c.if-invariants.true)))

pub returns : goal.returns
returns c = (
  λ e. (none_named c.args.monitors.now (sym c.is_empty.ensures ∙ e), c.if-invariants.false),
  λ h. c.is_empty.ensures ∙ unnamed c.args.monitors.now h.0,
)
