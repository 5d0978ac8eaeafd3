use Rattle.std.proofs.Common.{subst, sym}
use Rattle.ioa_serving.specs.Headline.{Spells}
use Rattle.ioac.proofs.remarks.sources.checked_in.Goals as goal

-- what is checked is what was read
pub returns-in-Ok-check : goal.returns-in-Ok-check
returns-in-Ok-check c = subst (Spells c.args.text.now) (sym c.in-Ok-check.ensures.same) c.in-Ok.ensures.found
