use Rattle.std.proofs.Common.{Option, subst}
use Rattle.std.specs.String.{string_bytes}
use Rattle.ioa_coverage.specs.declared.coverage.Coverage.{Coverage}
use Rattle.ioa_serving.specs.Seeds.{performed_by_all}
use Rattle.ioa_serving.specs.SeedRuns.{IsCovered}
use Rattle.ioa_serving.proofs.SeedsCovered.{none_told, some_told}
use Rattle.ioa_serving.proofs.seed_tally.Tally.coverage_text.Goals as goal

pub returns-in_default : goal.returns-in_default
returns-in_default c = λ p source asked x js so runs of.
    none_told p source asked x js (subst (λ (o : Option Coverage). IsCovered p source asked o js) c.in_default.is so)

pub returns : goal.returns
returns c = λ p source asked x js so runs of.
    some_told p source asked x c.in-Some.coverage js (string_bytes c.in_ok-text.text) (subst (λ (o : Option Coverage). IsCovered p source asked o js) c.in-Some.is so)
    (λ k. c.in_ok-text.ensures p source x (performed_by_all js) k runs of)
