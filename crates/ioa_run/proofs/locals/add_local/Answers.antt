use Rattle.std.proofs.Common.{◌∙◌, ap, sym}
use Rattle.ioa_compile.specs.Shown.{entry_code}
use Rattle.ioa_compile.specs.Sites.{sites_of}
use Rattle.ioa_run.proofs.LocalSites.{none_added, one_added}
use Rattle.ioa_run.proofs.locals.add_local.Goals as goal

pub returns-then-not-is_local : goal.returns-then-not-is_local
returns-then-not-is_local c = none_added c.args.program.now (entry_code c.args.entry.now) c.args.own.now.items (sym c.is_local.ensures ∙ c.if-not-is_local.true)

-- beside the entry stand the sites of its name
pub returns : goal.returns
returns c =
    let p = c.args.program.now in
    one_added p c.args.own.now.items c.push.new.self.items (record { entry = c.args.entry; sites = c.sites-sites.result }) (sym c.is_local.ensures ∙ c.if-not-is_local.false)
    (c.sites-sites.ensures.value ∙ ap (sites_of p) c.as_str.ensures.value) c.in_ok-push.ensures.items
