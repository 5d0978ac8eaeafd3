use Rattle.std.proofs.Common.{map, length, Some, ap, subst, sym, ◌∙◌, arith}
use Rattle.std.proofs.lemmas.List.{length-map}
use Rattle.ioa_value.proofs.ItemLemmas.{at_map}
use Rattle.ioa_clash.specs.Clashes.{signed_of, signature_of, IsClearTill}
use Rattle.ioa_clash.proofs.SearchLemmas.{better, no-better, till-from}
use Rattle.ioa_clash.proofs.clashes.first_of.Goals as goal
use Rattle.ioa_clash.proofs.clashes.first_of.Goals.{then-other-end, else-other-end}

pub loop-k-preserved : goal.loop-k-preserved
loop-k-preserved c =
    let types = c.args.types.now in
    let all = c.args.signatures.now in
    let here = at_map signature_of all c.args.i c.index-signatures-i.result c.requires.within c.index-signatures-i.is
    ∙ ap (λ es. Some (map signed_of es)) (sym c.as_slice-entries.ensures.value) in
    let there = at_map signed_of c.as_slice-entries.result.now c.loop-k.k c.index-entries-k.result c.loop-k-test.true c.index-entries-k.is in
    elim c.if-other-end.branch [
      | then-other-end w ↦ better types (map signature_of all) (length all) c.args.i c.loop-k.k c.loop-k.end c.loop-k.first c.first_hit-other.result _
          _ here there c.loop-k.invariant c.first_hit-other.ensures _ _ w.end-is w.first-is w.if-other-end.true
      | else-other-end w ↦ no-better types (map signature_of all) (length all) c.args.i c.loop-k.k c.loop-k.end c.loop-k.first
          c.first_hit-other.result _ _ here there c.loop-k.invariant c.first_hit-other.ensures _ _ w.end-is w.first-is w.if-other-end.false
    ]

pub returns-then-end-signatures-clause-none : goal.returns-then-end-signatures-clause-none
returns-then-end-signatures-clause-none c =
    let all = c.args.signatures.now in
    let signature = c.index-signatures-i.result in
    let size = length-map signature.items signed_of in
    let same = ap length c.as_slice-entries.ensures.value in
    subst (λ n. IsClearTill c.args.types.now (map signature_of all) c.args.i n) c.if-end-signatures.true
    (till-from c.args.types.now (map signature_of all) c.args.i c.loop-k.k c.loop-k.end (signature_of signature)
    (at_map signature_of all c.args.i signature c.requires.within c.index-signatures-i.is) (omega arith) c.loop-k.invariant.clear)

pub returns-clause-before : goal.returns-clause-before
returns-clause-before c =
    let all = c.args.signatures.now in
    let signature = c.index-signatures-i.result in
    let size = length-map signature.items signed_of in
    let same = ap length c.as_slice-entries.ensures.value in
    till-from c.args.types.now (map signature_of all) c.args.i c.loop-k.k c.loop-k.end (signature_of signature)
    (at_map signature_of all c.args.i signature c.requires.within c.index-signatures-i.is) (omega arith) c.loop-k.invariant.clear
