use Rattle.std.proofs.Common.{◌≡◌, ◌++◌, List, map, get_or, refl, ap, sym, ◌∙◌, arith}
use Rattle.std.proofs.Math.ListN.{get_or-map}
use Rattle.std.proofs.lemmas.List.{length-map}
use Rattle.ioa_value.specs.Actions.{Name}
use Rattle.ioa_clash.specs.Clashes.{SignedEntry, signed_of}
use Rattle.ioa_clash.specs.Index.{entry_name, named_among, place_of, under}
use Rattle.ioa_clash.specs.declared.places.Place.{Place}
use Rattle.ioa_clash.proofs.IndexLemmas.{one-more, all-added}
use Rattle.ioa_clash.proofs.places.add_places.Goals as goal

pub loop-k-preserved : goal.loop-k-preserved
loop-k-preserved c =
    let es : List SignedEntry = map signed_of c.args.entries.now in
    let e : SignedEntry = signed_of c.index-entries-k.result in
    let all : Name → List Place = λ x. under c.args.index.now x ++ named_among entry_name place_of c.args.component 0 es x in
    let size = length-map c.args.entries.now signed_of in
    let is : e ≡ get_or es c.loop-k.k e = ap signed_of c.index-entries-k.is ∙ sym (get_or-map signed_of c.args.entries.now c.loop-k.k c.index-entries-k.result) in
    one-more entry_name place_of c.loop-k.index c.add.new.self all c.args.component c.loop-k.k es e _ _ (omega arith) is
    (ap (λ d. d.name.now) (sym c.index-entries-k.is)) refl c.in_ok-add.ensures c.loop-k.invariant

pub returns : goal.returns
returns c =
    let es : List SignedEntry = map signed_of c.args.entries.now in
    let all : Name → List Place = λ x. under c.args.index.now x ++ named_among entry_name place_of c.args.component 0 es x in
    let size = length-map c.args.entries.now signed_of in
    all-added entry_name place_of c.loop-k.index all c.args.component c.loop-k.k es (omega arith) c.loop-k.invariant
