use Rattle.std.proofs.Common.{◌≡◌, length, sym, ap, ◌∙◌, arith}
use Rattle.std.specs.Str.{bytes_eq}
use Rattle.std.proofs.lemmas.List.{length-map}
use Rattle.ioa_value.proofs.ItemLemmas.{item_there}
use Rattle.ioa_tree.specs.Tree.{InvariantTree}
use Rattle.ioa_tree.specs.View.{invariant_of}
use Rattle.ioa_compose.specs.Held.{composed_of}
use Rattle.ioa_account.proofs.Counting.{counted_no, counted_yes}
use Rattle.ioa_account.proofs.counts.asked_of.Goals.{then-is_about, else-is_about}
use Rattle.ioa_account.proofs.counts.asked_of.Goals as goal

pub loop-number-preserved : goal.loop-number-preserved
loop-number-preserved c =
    let vs = (composed_of c.args.composition.now).invariants in
    let i = c.loop-number.number in
    let end : length c.invariants-number-end.result.now ≡ length c.args.composition.now.invariants = ap length c.invariants-number-end.ensures.value in
    let here = item_there vs i (omega (arith, length-map c.args.composition.now.invariants invariant_of)) in
    elim c.if-is_about.branch [
      | then-is_about w ↦ record {
        counted = λ m at. w.count-is
            ∙ counted_yes (λ (v : InvariantTree). bytes_eq v.automaton m.instance.automaton.name) vs i here.0 c.loop-number.count here.1 (c.loop-number.invariant.counted m at)
            (sym (c.is_about.ensures m here.0 at here.1) ∙ w.if-is_about.true);
        within = omega (arith, w.count-is);
      }
      | else-is_about w ↦ record {
        counted = λ m at. w.count-is
            ∙ counted_no (λ (v : InvariantTree). bytes_eq v.automaton m.instance.automaton.name) vs i here.0 c.loop-number.count here.1 (c.loop-number.invariant.counted m at)
            (sym (c.is_about.ensures m here.0 at here.1) ∙ w.if-is_about.false);
        within = omega (arith, w.count-is);
      }
    ]
