use Rattle.std.proofs.Common.{◌≡◌, ◌∙◌, ◌∷◌, [], List, ap, option_map, string_bytes, subst}
use Rattle.ioa_value.specs.Actions.{Act}
use Rattle.ioa_system.specs.Logs.{logged}
use Rattle.ioa_coverage.specs.Covered.{its_coverage}
use Rattle.ioa_serving.specs.Coverage.{behind, told_coverage}
use Rattle.ioa_serving.specs.Logs.{performed_in}
use Rattle.ioa_serving.specs.Traces.{table_told}
use Rattle.ioa_serving.proofs.Covering.{lent, not_asked, told_behind}
use Rattle.ioa_serving.proofs.run.told_of.Goals as goal

pub returns-then-not-settings : goal.returns-then-not-settings
returns-then-not-settings c = λ x runs of.
    let all = performed_in (logged c.args.ran.now.log) ∷ [] in
    not_asked x c.args.settings.now.coverage all (option_map string_bytes c.in_ok-reports.reports) c.if-not-settings.true
    ∙ ap (λ o. behind o (told_coverage x c.args.settings.now.coverage all)) c.in_ok-reports.ensures

pub coverage_of-requires : goal.coverage_of-requires
coverage_of-requires c = let k = c.requires.declares in (k.0, k.1, lent c.as_ref-source.result _ k.0 c.as_ref-source.ensures.value k.2)

pub returns : goal.returns
returns c = λ x runs of.
    told_behind x c.args.settings.now.coverage (performed_in (logged c.args.ran.now.log) ∷ []) (option_map string_bytes c.in_ok-reports.reports) (table_told c.args.settings.now.reports c.args.ran.now) (string_bytes c.in_ok-coverage.coverage) (string_bytes c.in_ok-told.told)
    c.if-not-settings.false c.in_ok-reports.ensures
    (subst (λ (acts : List Act). string_bytes c.in_ok-coverage.coverage ≡ its_coverage x (acts ∷ [])) c.performed_entries.ensures
    (c.in_ok-coverage.ensures x runs (lent c.as_ref-source.result _ x c.as_ref-source.ensures.value of))) c.in_ok-told.ensures
