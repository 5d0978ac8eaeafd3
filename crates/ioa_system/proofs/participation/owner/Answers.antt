use Rattle.std.proofs.Common.{ap, ◌∙◌}
use Rattle.std.specs.Option.{option_map}
use Rattle.ioa_value.specs.Actions.{act_of}
use Rattle.ioa_sites.specs.declared.sites.Site.{Site}
use Rattle.ioa_system.proofs.Taking.{owner_told}
use Rattle.ioa_system.proofs.participation.owner.Goals as goal

pub returns : goal.returns
returns c =
    c.component_in.ensures ∙ ap (option_map (λ (s : Site). s.component)) c.owner_site.ensures.value
    ∙ owner_told c.args.program.now (act_of c.args.action.now) c.owner_site.ensures.sound
