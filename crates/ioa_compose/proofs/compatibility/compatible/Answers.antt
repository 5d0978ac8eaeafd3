use Rattle.std.proofs.Common.{map, refl, sym, ap, ◌∙◌}
use Rattle.ioa_clash.specs.Clashes.{SignedEntry, signature_of}
use Rattle.ioa_clash.proofs.ClashLemmas.{found-clash, stands-at}
use Rattle.ioa_clash.proofs.SearchLemmas.{one-entry}
use Rattle.ioa_compose.proofs.SignedLemmas.{signed-lent, all-signatures, none-clash-by, clashes-by}
use Rattle.ioa_compose.proofs.compatibility.compatible.Goals as goal

pub first_clash-requires-clause-signed : goal.first_clash-requires-clause-signed
first_clash-requires-clause-signed c =
    let types = c.args.types.now in
    let bs = c.args.bindings.now in
    let z = signed-lent types bs c.in_ok-signatures.signatures.items c.deref.result.now c.deref.ensures.value c.in_ok-signatures.ensures c.requires.own c.requires.positions in
    all-signatures types c.requires.table bs (map signature_of c.deref.result.now) z c.requires.sound c.requires.startable c.requires.apart

pub returns-in-None-clause-ok : goal.returns-in-None-clause-ok
returns-in-None-clause-ok c =
    let types = c.args.types.now in
    let bs = c.args.bindings.now in
    let z = signed-lent types bs c.in_ok-signatures.signatures.items c.deref.result.now c.deref.ensures.value c.in_ok-signatures.ensures c.requires.own c.requires.positions in
    none-clash-by types bs (map signature_of c.deref.result.now) z (c.in_ok-first_clash.ensures.exact.0 c.in-None.is)

pub entry_at-entry-requires : goal.entry_at-entry-requires
entry_at-entry-requires c =
    let h = found-clash c.args.types.now (map signature_of c.deref.result.now) c.in_ok-first_clash.field-0 c.in-Some.clash c.in_ok-first_clash.ensures.first c.in-Some.is in
    (h.entry, stands-at c.args.types.now c.in-Some.clash c.deref.result.now c.deref-in-Some.result.now (c.deref.ensures.value ∙ sym c.deref-in-Some.ensures.value) h)

pub returns-clause-refused : goal.returns-clause-refused
returns-clause-refused c =
    let types = c.args.types.now in
    let bs = c.args.bindings.now in
    let ss = map signature_of c.deref.result.now in
    let z = signed-lent types bs c.in_ok-signatures.signatures.items c.deref.result.now c.deref.ensures.value c.in_ok-signatures.ensures c.requires.own c.requires.positions in
    let h = found-clash types ss c.in_ok-first_clash.field-0 c.in-Some.clash c.in_ok-first_clash.ensures.first c.in-Some.is in
    let at = stands-at types c.in-Some.clash c.deref.result.now c.deref-in-Some.result.now (c.deref.ensures.value ∙ sym c.deref-in-Some.ensures.value) h in
    clashes-by types bs ss z c.requires.sound c.requires.startable c.requires.apart c.in-Some.clash _ h
    (c.in_ok-name-in-Some.ensures.ok ∙ ap (λ (e : SignedEntry). e.name) (one-entry types (map signature_of c.deref-in-Some.result.now) _ _ _ h.entry refl c.entry_at-entry.ensures at))
