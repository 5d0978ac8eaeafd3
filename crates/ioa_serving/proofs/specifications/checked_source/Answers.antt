use Rattle.std.proofs.Common.{subst, sym}
use Rattle.ioa_tree.specs.WellFormed.{WellFormed}
use Rattle.ioa_serving.specs.Headline.{Spells}
use Rattle.ioa_serving.proofs.specifications.checked_source.Goals as goal

pub returns-clause-spelled : goal.returns-clause-spelled
returns-clause-spelled c = subst (Spells c.args.text.now) (sym c.in_ok-checked.ensures.same) c.in_ok-source.ensures.found

pub returns-clause-well_formed : goal.returns-clause-well_formed
returns-clause-well_formed c = subst WellFormed (sym c.in_ok-checked.ensures.same) c.in_ok-checked.ensures.well_formed
