use Rattle.std.proofs.Common.{◌≡◌, ◌∙◌, ◌-◌, ◌<◌, ◌^◌, List, Option, ap, arith, get_or, length, map, option_map, sym}
use Rattle.std.proofs.lemmas.Option.{slice_get-get_or}
use Rattle.ioa_system.specs.declared.outcomes.End.{End}
use Rattle.ioa_system.specs.Outcomes.{ending_of}
use Rattle.ioa_serving.proofs.SeedLines.{no_refusal, one_refusal, with_beyond}
use Rattle.ioa_serving.proofs.seed_counts.add_refusals.Goals as goal
use Rattle.ioa_serving.proofs.seed_counts.add_refusals.Goals.{else-is_some, then-is_some}

pub overflow_add-counts : goal.overflow_add-counts
overflow_add-counts c =
    let i = c.loop-place.place in
    let within : i < length c.args.counts.now = omega (arith, c.loop-place-test.true, c.requires.answered) in
    let here : get_or c.loop-place.counts i 0 ≡ get_or c.args.counts.now i 0 =
    ap (λ ns. get_or ns i 0) c.loop-place.invariant ∙ with_beyond c.args.counts.now (map (option_map ending_of) c.args.answers.now) i in
    let less : get_or c.args.counts.now i 0 < 2 ^ 128 - 1 = c.requires.roomy i 0 within in
    omega (arith, here, less)

pub loop-place-preserved : goal.loop-place-preserved
loop-place-preserved c =
    let i = c.loop-place.place in
    let os : List (Option End) = c.args.answers.now in
    let inside : i < length os = omega (arith, c.loop-place-test.true) in
    let within : i < length c.args.counts.now = omega (arith, c.loop-place-test.true, c.requires.answered) in
    elim c.if-is_some.branch [
      | then-is_some w ↦
          one_refusal c.args.counts.now c.loop-place.counts os i _ (slice_get-get_or os i _ inside) within c.loop-place.invariant c.if-is_some.counts (sym c.is_some.ensures ∙ w.if-is_some.true) w.counts-is
      | else-is_some w ↦
          no_refusal c.args.counts.now c.loop-place.counts os i _ (slice_get-get_or os i _ inside) within c.loop-place.invariant c.if-is_some.counts (sym c.is_some.ensures ∙ w.if-is_some.false) w.counts-is
    ]
