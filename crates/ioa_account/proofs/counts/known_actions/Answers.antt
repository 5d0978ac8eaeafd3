use Rattle.std.proofs.Common.{map, sym, ap, ◌∙◌, arith}
use Rattle.std.proofs.lemmas.List.{length-map, take_all}
use Rattle.std.specs.List.{list_any}
use Rattle.ioa_value.specs.Actions.{Act, act_of}
use Rattle.ioa_value.proofs.ItemLemmas.{at_map}
use Rattle.ioa_tree.specs.Components.{has}
use Rattle.ioa_compile.specs.Subjects.{its_components}
use Rattle.ioa_compile.specs.Tables.{tabled}
use Rattle.ioa_compile.proofs.Subjects.{participants_as}
use Rattle.ioa_account.specs.Counts as spec
use Rattle.ioa_account.proofs.Counting.{counted_no, counted_yes, known_alike}
use Rattle.ioa_account.proofs.counts.known_actions.Goals.{then-known, else-known}
use Rattle.ioa_account.proofs.counts.known_actions.Goals as goal

pub loop-action-preserved : goal.loop-action-preserved
loop-action-preserved c =
    let ps = tabled c.args.program.now in
    let xs = c.args.actions.now in
    let i = c.loop-action.action-index in
    let a = c.action-item.result in
    let at = at_map act_of xs i a c.loop-action-test.true c.action-item.is in
    elim c.if-known.branch [
      | then-known w ↦ record {
        counted = w.count-is
            ∙ counted_yes (λ (b : Act). list_any (has b) ps) (map act_of xs) i (act_of a) c.loop-action.count at c.loop-action.invariant.counted
            (sym c.in_ok-known.ensures ∙ w.if-known.true);
        within = omega (arith, w.count-is);
      }
      | else-known w ↦ record {
        counted = w.count-is
            ∙ counted_no (λ (b : Act). list_any (has b) ps) (map act_of xs) i (act_of a) c.loop-action.count at c.loop-action.invariant.counted
            (sym c.in_ok-known.ensures ∙ w.if-known.false);
        within = omega (arith, w.count-is);
      }
    ]

pub returns : goal.returns
returns c = λ s runs.
    let p = c.args.program.now in
    let acts = map act_of c.args.actions.now in
    let all = take_all c.loop-action.action-index acts (omega (arith, length-map c.args.actions.now act_of)) in
    c.loop-action.invariant.counted ∙ ap (spec.known_actions (tabled p)) all ∙ known_alike (tabled p) (its_components s) acts (participants_as p s runs)
