use Rattle.std.proofs.Common.{◌≡◌, ap, subst, ◌∙◌}
use Rattle.std.specs.Option.{option_map}
use Rattle.ioa_value.specs.Actions.{act_of}
use Rattle.ioa_tree.specs.Steps.{owner}
use Rattle.ioa_sites.specs.declared.sites.Site.{Site}
use Rattle.ioa_compile.specs.Tables.{tabled}
use Rattle.ioa_system.specs.ProgramActions.{ProgramAction}
use Rattle.ioa_system.proofs.Taking.{owner_told}
use Rattle.ioa_system.proofs.participation.Participation.owner.Goals as goal

pub returns : goal.returns
returns c =
    c.component_in.ensures
    ∙ subst (λ (x : ProgramAction). option_map (λ (s : Site). s.component) c.self.inside.owner ≡ owner (tabled x.program) x.action) c.self.view_is
    (ap (option_map (λ (s : Site). s.component)) c.self.invariant.2
    ∙ owner_told c.self.inside.program.now (act_of c.self.inside.action.now) c.self.invariant.0)
