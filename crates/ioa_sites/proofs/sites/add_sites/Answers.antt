use Rattle.std.proofs.Common.{◌≡◌, ◌++◌, Bool, List, map, get_or, ap, sym, ◌∙◌, arith}
use Rattle.std.specs.String.{string_bytes}
use Rattle.std.proofs.Math.ListN.{get_or-map}
use Rattle.std.proofs.lemmas.List.{length-map}
use Rattle.ioa_value.specs.Actions.{Name}
use Rattle.ioa_clash.specs.Index.{named_among, under}
use Rattle.ioa_clash.proofs.IndexLemmas.{one-more, all-added}
use Rattle.ioa_sites.specs.declared.sites.Site.{Site}
use Rattle.ioa_sites.specs.Sites.{site_by}
use Rattle.ioa_sites.proofs.sites.add_sites.Goals as goal

pub loop-k-preserved : goal.loop-k-preserved
loop-k-preserved g c =
    let seen : g.E.Sited.Listed → Bool = g.E.Sited.seen (map string_bytes c.args.hidden.now) in
    let es : List g.E.Sited.Listed = map g.E.Sited.listed c.args.entries.now in
    let e : g.E.Sited.Listed = g.E.Sited.listed c.index-entries-k.result in
    let all : Name → List Site = λ x. under c.args.index.now x ++ named_among g.E.Sited.called (site_by seen) c.args.component 0 es x in
    let size = length-map c.args.entries.now g.E.Sited.listed in
    let is : e ≡ get_or es c.loop-k.k e = ap g.E.Sited.listed c.index-entries-k.is ∙ sym (get_or-map g.E.Sited.listed c.args.entries.now c.loop-k.k c.index-entries-k.result) in
    one-more g.E.Sited.called (site_by seen) c.loop-k.index c.add.new.self all c.args.component c.loop-k.k es e _ _ (omega arith) is
    c.name.ensures (ap (λ b. record { component = c.args.component; entry = c.loop-k.k; shown = b }) c.is_shown.ensures) c.in_ok-add.ensures c.loop-k.invariant

pub returns : goal.returns
returns g c =
    let seen : g.E.Sited.Listed → Bool = g.E.Sited.seen (map string_bytes c.args.hidden.now) in
    let es : List g.E.Sited.Listed = map g.E.Sited.listed c.args.entries.now in
    let all : Name → List Site = λ x. under c.args.index.now x ++ named_among g.E.Sited.called (site_by seen) c.args.component 0 es x in
    let size = length-map c.args.entries.now g.E.Sited.listed in
    all-added g.E.Sited.called (site_by seen) c.loop-k.index all c.args.component c.loop-k.k es (omega arith) c.loop-k.invariant
