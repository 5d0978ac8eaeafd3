use Rattle.std.proofs.Common.{true, ap, ◌∙◌}
use Rattle.std.specs.Option.{option_map_or}
use Rattle.ioa_value.specs.Actions.{act_of}
use Rattle.ioa_sites.specs.declared.sites.Site.{Site}
use Rattle.ioa_system.proofs.Taking.{external_told}
use Rattle.ioa_system.proofs.participation.is_external.Goals as goal

pub returns : goal.returns
returns c =
    c.is_shown.ensures ∙ ap (λ o. option_map_or (λ (s : Site). s.shown) o true) c.owner_site.ensures.value
    ∙ external_told c.args.program.now (act_of c.args.action.now) c.owner_site.ensures.sound
