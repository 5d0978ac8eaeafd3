use Rattle.std.proofs.Common.{map, get_or, arith, refl, sym, ap, ◌∙◌}
use Rattle.std.proofs.lemmas.Option.{slice_get-get_or}
use Rattle.ioa_clash.specs.Clashes.{signed_of, signature_of, clash}
use Rattle.ioa_clash.proofs.SearchLemmas.{held-there, one-entry, hit-more, hit-same, hit-first}
use Rattle.ioa_clash.proofs.clashes.first_hit.Goals as goal
use Rattle.ioa_clash.proofs.clashes.first_hit.Goals.{then-start-place+then-place-first+then-entries_clash, else-start-place, else-start-place-via-then-start-place+then-place-first+else-entries_clash, else-start-place-via-then-start-place+else-place-first, else-start-place-via-else-start-place}

pub entry_at-requires : goal.entry_at-requires
entry_at-requires c =
    let ps = c.named-places.result.now in
    let here = slice_get-get_or ps c.loop-k.k (record { component = 0; entry = 0 }) c.loop-k-test.true in
    held-there c.args.types.now (map signature_of c.args.signatures.now) c.args.index.now c.args.entry.now.name.now ps c.loop-k.k _ c.requires.indexed c.named-places.ensures here

pub loop-k-preserved : goal.loop-k-preserved
loop-k-preserved c =
    let types = c.args.types.now in
    let ss = map signature_of c.args.signatures.now in
    let e = signed_of c.args.entry.now in
    let ps = c.named-places.result.now in
    let p = get_or ps c.loop-k.k (record { component = 0; entry = 0 }) in
    let here = slice_get-get_or ps c.loop-k.k (record { component = 0; entry = 0 }) c.loop-k-test.true in
    let same = hit-same types ss e c.args.start c.args.end c.loop-k.k c.loop-k.first ps p here c.loop-k.invariant in
    elim c.if-start-place.branch [
      | then-start-place+then-place-first+then-entries_clash w ↦
          hit-more types ss e c.args.start c.args.end c.loop-k.k c.loop-k.first ps p here c.loop-k.invariant _ _ w.first-is w.entry_at.ensures
          w.if-start-place.true w.if-place-first.true (sym w.entries_clash.ensures ∙ w.if-entries_clash.true)
      | else-start-place w ↦ elim w.else-start-place.branch [
        | else-start-place-via-then-start-place+then-place-first+else-entries_clash v ↦ same _ w.first-is (λ f at from till.
            ap (clash types e) (one-entry types ss p p f (signed_of v.entry_at.result.now) refl at v.entry_at.ensures) ∙ sym v.entries_clash.ensures
            ∙ v.if-entries_clash.false)
        | else-start-place-via-then-start-place+else-place-first v ↦ same _ w.first-is
            (λ f at from till. let not_less = v.if-place-first.false in absurd (omega (arith, till, not_less)))
        | else-start-place-via-else-start-place v ↦ same _ w.first-is (λ f at from till. let less = v.if-start-place.false in absurd (omega (arith, from, less)))
      ]
    ]

pub returns : goal.returns
returns c = hit-first c.args.types.now (map signature_of c.args.signatures.now) c.args.index.now (signed_of c.args.entry.now) c.args.start
    c.args.end c.loop-k.k c.loop-k.first c.named-places.result.now c.requires.indexed
    c.named-places.ensures c.loop-k-test.false c.loop-k.invariant
