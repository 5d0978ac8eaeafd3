use Rattle.std.proofs.Common.{◌≡◌, List, get_or, sym, ap, subst, ◌∙◌, slice_get, false}
use Rattle.std.proofs.lemmas.Option.{slice_get-get_or}
use Rattle.ioa_value.specs.Actions.{act_of, Act}
use Rattle.ioa_sites.specs.declared.sites.Site.{Site}
use Rattle.ioa_compile.specs.Programs.{Prog}
use Rattle.ioa_compile.specs.Sites.{sites_of}
use Rattle.ioa_system.specs.Found.{IsSite}
use Rattle.ioa_system.proofs.Taking.{is_site}
use Rattle.ioa_system.proofs.participation.owner_site.Goals as goal
use Rattle.ioa_system.proofs.participation.owner_site.Goals.{After-sites-sites}

-- the sites are those of the action's name
those : (c : After-sites-sites) → c.sites-sites.result.now ≡ sites_of c.args.program.now (act_of c.args.action.now).name
those c = c.sites-sites.ensures.value ∙ ap (sites_of c.args.program.now) c.as_str.ensures.value

pub taker_at-requires : goal.taker_at-requires
taker_at-requires c =
    let p : Prog = c.args.program.now in
    let a : Act = act_of c.args.action.now in
    let ss : List Site = c.sites-sites.result.now in
    let s : Site = get_or ss c.loop-k.k (record { component = 0; entry = 0; shown = false }) in
    let at = slice_get-get_or ss c.loop-k.k (record { component = 0; entry = 0; shown = false }) c.loop-k-test.true in
    subst (λ ms. IsSite ms s) (sym c.members-members.ensures.value)
    (is_site p a.name c.loop-k.k s (ap (λ us. slice_get us c.loop-k.k) (sym (those ((goal.at.taker_at-requires c).After-sites-sites))) ∙ at))
