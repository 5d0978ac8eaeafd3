use Rattle.std.proofs.Common.{◌≡◌, List, map, get_or, ap, subst, sym, ◌∙◌, arith}
use Rattle.std.proofs.Math.ListN.{get_or-map}
use Rattle.std.proofs.lemmas.List.{length-map}
use Rattle.ioa_clash.specs.Clashes.{SignedEntry, signature_of, signed_of}
use Rattle.ioa_clash.specs.Index.{AddsAll, entry_name, place_of}
use Rattle.ioa_clash.proofs.IndexLemmas.{next, all-indexed}
use Rattle.ioa_clash.proofs.places.places_of.Goals as goal

pub loop-component-preserved : goal.loop-component-preserved
loop-component-preserved c =
    let ess : List (List SignedEntry) = map signature_of c.args.signatures.now in
    let es : List SignedEntry = signature_of c.index-signatures-component.result in
    let size = length-map c.args.signatures.now signature_of in
    let is : es ≡ get_or ess c.loop-component.component es
    = ap signature_of c.index-signatures-component.is ∙ sym (get_or-map signature_of c.args.signatures.now c.loop-component.component c.index-signatures-component.result) in
    let adds = subst (λ l. AddsAll entry_name place_of c.loop-component.index c.loop-component.component (map signed_of l) c.add_places.new.index)
    c.deref.ensures.value c.in_ok-add_places.ensures in
    next entry_name place_of c.loop-component.index c.add_places.new.index c.loop-component.component ess es (omega arith) is adds c.loop-component.invariant

pub returns : goal.returns
returns c =
    let size = length-map c.args.signatures.now signature_of in
    all-indexed entry_name place_of c.loop-component.index c.loop-component.component (map signature_of c.args.signatures.now) (omega arith) c.loop-component.invariant
