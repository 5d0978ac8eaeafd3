use Rattle.std.proofs.Common.{◌≡◌, true, ap, subst, ◌∙◌}
use Rattle.std.specs.Option.{option_map_or}
use Rattle.ioa_value.specs.Actions.{act_of}
use Rattle.ioa_tree.specs.Runs.{is_external}
use Rattle.ioa_sites.specs.declared.sites.Site.{Site}
use Rattle.ioa_compile.specs.Tables.{tabled}
use Rattle.ioa_system.specs.ProgramActions.{ProgramAction}
use Rattle.ioa_system.proofs.Taking.{external_told}
use Rattle.ioa_system.proofs.participation.Participation.is_external.Goals as goal

pub returns : goal.returns
returns c =
    c.is_shown.ensures
    ∙ subst (λ (x : ProgramAction). option_map_or (λ (s : Site). s.shown) c.self.inside.owner true ≡ is_external x.program.hidden (tabled x.program) x.action) c.self.view_is
    (ap (λ o. option_map_or (λ (s : Site). s.shown) o true) c.self.invariant.2
    ∙ external_told c.self.inside.program.now (act_of c.self.inside.action.now) c.self.invariant.0)
