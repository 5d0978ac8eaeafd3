use Rattle.std.proofs.Common.{◌≡◌, ◌∙◌, ◌+◌, ◌++◌, ◌∷◌, ◌<◌, ◌≤◌, ◌^◌, ℕ, List, [], ap, arith, inr, length, length-append, refl, subst, suc, sym}
use Rattle.std.proofs.lemmas.Result.{err_from_is_err_and}
use Rattle.ioa_device.specs.Failing.{HasFailed}
use Rattle.ioa_serving.specs.declared.seed_tally.Tally.{Tally}
use Rattle.ioa_serving.specs.Seeds.{Judged, monitors_of, seed_lines, seeds_count}
use Rattle.ioa_serving.specs.SeedRuns.{IsCovered, IsTallyOf, IsTold, judged_of}
use Rattle.ioa_serving.proofs.Refused.{err_so}
use Rattle.ioa_serving.proofs.SeedCuts.{answers_count, cut_on, refused_next, runs_on, told_on}
use Rattle.ioa_serving.proofs.SeedLines.{refusals_count}
use Rattle.ioa_serving.proofs.SeedsCovered.{all_fit, bounded_more, covered_kept, tally_kept}
use Rattle.ioa_serving.proofs.seeds.tell_runs.Goals as goal
use Rattle.ioa_serving.proofs.seeds.tell_runs.Goals.{else-loop-number-test, then-loop-number-test+in_ok-judged+in_ok-tell_run+in_ok-cover+else-number-number-end}

pub returns-in_err-judged-clause-refused : goal.returns-in_err-judged-clause-refused
returns-in_err-judged-clause-refused g c =
    let e = err_from_is_err_and c.from_residual-in_err-judged.result c.from_residual-in_err-judged.ensures.1 in
    let so = c.loop-number.invariant in
    err_so c.from_residual-in_err-judged.result e.0 _ _ e.1 e.2
    (refused_next c.args.sown.now c.args.seeds.now (g.W.Write.contents c.args.output.now) (g.W.Write.contents c.loop-number.output) so.judged c.loop-number.number so.next so.few so.runs so.output
    (HasFailed (g.W.Device.failure_count c.args.output.now) (g.W.Device.failure_count c.loop-number.output)) c.in_err-judged.field-0.0 c.in_err-judged.ensures.refused)

pub returns-in_err-tell_run-clause-refused : goal.returns-in_err-tell_run-clause-refused
returns-in_err-tell_run-clause-refused g c =
    let e = err_from_is_err_and c.from_residual-in_err-tell_run.result c.from_residual-in_err-tell_run.ensures.1 in
    let so = c.loop-number.invariant in
    let less : suc (length so.judged) ≤ seeds_count c.args.seeds.now = omega (arith, so.next) in
    err_so c.from_residual-in_err-tell_run.result e.0 _ _ e.1 e.2
    (inr (cut_on c.args.sown.now c.args.seeds.now (g.W.Write.contents c.args.output.now) (g.W.Write.contents c.loop-number.output) so.judged c.loop-number.number so.next so.few so.runs so.output
    (judged_of c.in_ok-judged.judged) c.in_ok-judged.ensures.judged (g.W.Write.contents c.tell_run.new.output) (HasFailed (g.W.Device.failure_count c.args.output.now) (g.W.Device.failure_count c.tell_run.new.output))
    c.in_err-tell_run.field-0.0 less c.in_err-tell_run.ensures.only
    (λ io. subst (λ n. HasFailed n (g.W.Device.failure_count c.tell_run.new.output)) so.passed (c.in_err-tell_run.ensures.io io))
    c.in_err-tell_run.ensures.begun c.in_err-tell_run.ensures.memory))

pub loop-number-preserved : goal.loop-number-preserved
loop-number-preserved g c =
    let so = c.loop-number.invariant in
    let j = judged_of c.in_ok-judged.judged in
    let judged : List Judged = so.judged ++ j ∷ [] in
    let next : c.args.seeds.now.first + length judged ≡ c.loop-number.number + 1 = omega (arith, so.next, length-append so.judged (j ∷ [])) in
    let few : length judged ≤ seeds_count c.args.seeds.now = omega (arith, so.next, next) in
    record {
      judged = judged;
      next = next;
      few = few;
      runs = runs_on c.args.sown.now c.args.seeds.now (g.W.Write.contents c.args.output.now) (g.W.Write.contents c.loop-number.output) so.judged c.loop-number.number so.next so.few so.runs so.output j c.in_ok-judged.ensures.judged;
      tallied = c.add.ensures.tallied (length c.args.sown.now.specifications.items) so.judged
          (tally_kept (length c.args.sown.now.specifications.items) so.judged c.loop-number.tally c.cover.new.self c.in_ok-cover.ensures.counts c.in_ok-cover.ensures.shortest so.tallied);
      covered = covered_kept c.args.sown.now.ready.program c.args.sown.now.ready.source c.args.seeds.now.run.coverage judged c.cover.new.self c.add.new.self c.add.ensures.coverage
          (c.in_ok-cover.ensures.covered c.args.sown.now.ready.program c.args.sown.now.ready.source c.args.seeds.now.run.coverage so.judged so.covered);
      bounded = bounded_more so.judged c.in_ok-judged.judged so.bounded;
      output = told_on c.args.sown.now c.args.seeds.now (g.W.Write.contents c.args.output.now) (g.W.Write.contents c.loop-number.output) so.judged c.loop-number.number so.next so.few so.runs so.output j c.in_ok-judged.ensures.judged
          (g.W.Write.contents c.tell_run.new.output) c.in_ok-tell_run.ensures.ok;
      passed = c.in_ok-tell_run.ensures.passed (λ e. cc) ∙ so.passed;
    }

pub tell_run-requires : goal.tell_run-requires
tell_run-requires g c = answers_count c.args.sown.now c.args.seeds.now.run.turns c.loop-number.number c.in_ok-judged.judged c.in_ok-judged.ensures.judged ∙ c.requires.many

pub returns-in_err-cover-clause-refused : goal.returns-in_err-cover-clause-refused
returns-in_err-cover-clause-refused g c =
    let e = err_from_is_err_and c.from_residual-in_err-cover.result c.from_residual-in_err-cover.ensures.1 in
    let so = c.loop-number.invariant in
    let j = judged_of c.in_ok-judged.judged in
    let judged : List Judged = so.judged ++ j ∷ [] in
    let few : length judged ≤ seeds_count c.args.seeds.now = omega (arith, so.next, length-append so.judged (j ∷ [])) in
    err_so c.from_residual-in_err-cover.result e.0 _ _ e.1 e.2
    (inr (record {
      judged = judged;
      few = few;
      runs = runs_on c.args.sown.now c.args.seeds.now (g.W.Write.contents c.args.output.now) (g.W.Write.contents c.loop-number.output) so.judged c.loop-number.number so.next so.few so.runs so.output j c.in_ok-judged.ensures.judged;
      cut = inr (
        inr refl,
        told_on c.args.sown.now c.args.seeds.now (g.W.Write.contents c.args.output.now) (g.W.Write.contents c.loop-number.output) so.judged c.loop-number.number so.next so.few so.runs so.output j c.in_ok-judged.ensures.judged
            (g.W.Write.contents c.tell_run.new.output) c.in_ok-tell_run.ensures.ok,
      );
    }))

pub cover-requires : goal.cover-requires
cover-requires g c =
    let so = c.loop-number.invariant in
    let less : suc (length so.judged) ≤ seeds_count c.args.seeds.now = omega (arith, so.next) in
    let within : length so.judged < 2 ^ 64 = omega (arith, so.next, less) in
    let k = c.requires.declares in
    (c.args.sown.now.ready.program, c.args.sown.now.ready.source, c.args.seeds.now.run.coverage, k.0, so.judged, so.covered, k.1, k.2, all_fit so.judged c.in_ok-judged.judged so.bounded within)

pub add-requires-clause-counted : goal.add-requires-clause-counted
add-requires-clause-counted g c =
    let so = c.loop-number.invariant in
    let within : length so.judged ≤ 2 ^ 64 = omega (arith, so.next, so.few) in
    let kept = tally_kept (length c.args.sown.now.specifications.items) so.judged c.loop-number.tally c.cover.new.self c.in_ok-cover.ensures.counts c.in_ok-cover.ensures.shortest so.tallied in
    (length c.args.sown.now.specifications.items, so.judged, kept.0, within)

pub add-requires-clause-answered : goal.add-requires-clause-answered
add-requires-clause-answered g c =
    let so = c.loop-number.invariant in
    let many = answers_count c.args.sown.now c.args.seeds.now.run.turns c.loop-number.number c.in_ok-judged.judged c.in_ok-judged.ensures.judged in
    let kept = tally_kept (length c.args.sown.now.specifications.items) so.judged c.loop-number.tally c.cover.new.self c.in_ok-cover.ensures.counts c.in_ok-cover.ensures.shortest so.tallied in
    let counts = ap length kept.0.refusals ∙ refusals_count (length c.args.sown.now.specifications.items) so.judged in
    omega (arith, many, counts)

pub returns-clause-told : goal.returns-clause-told
returns-clause-told g c =
    let so = c.loop-number.invariant in
    let lines : List Judged → List ℕ = λ js. seed_lines c.args.seeds.now.json (monitors_of c.args.seeds.now) c.args.seeds.now.first js in
    elim c.loop-number-test.branch [
      | else-loop-number-test w ↦
          let count : length so.judged ≡ seeds_count c.args.seeds.now = omega (arith, so.next, so.few, w.loop-number-test.false) in
          let within : length so.judged ≤ 2 ^ 64 = omega (arith, so.next, so.few) in (
            so.judged,
            subst (λ (k : Tally). IsTold c.args.sown.now c.args.seeds.now (lines so.judged) (g.W.Write.contents c.args.output.now) (g.W.Write.contents c.loop-number-test.output) k so.judged) (sym w.tally-is)
                (subst (λ (out : g.row.W.Denot). IsTold c.args.sown.now c.args.seeds.now (lines so.judged) (g.W.Write.contents c.args.output.now) (g.W.Write.contents out) c.loop-number.tally so.judged) (sym w.output-is)
                (record { count = count; runs = so.runs; tallied = so.tallied; covered = so.covered; within = within; output = so.output })),
          )
      | then-loop-number-test+in_ok-judged+in_ok-tell_run+in_ok-cover+else-number-number-end w ↦
          let j = judged_of w.in_ok-judged.judged in
          let judged : List Judged = so.judged ++ j ∷ [] in
          let count : length judged ≡ seeds_count c.args.seeds.now = omega (arith, so.next, length-append so.judged (j ∷ [])) in
          let within : length judged ≤ 2 ^ 64 = omega (arith, so.next, length-append so.judged (j ∷ [])) in
          let tallied : IsTallyOf (length c.args.sown.now.specifications.items) w.add.new.self judged =
          w.add.ensures.tallied (length c.args.sown.now.specifications.items) so.judged
          (tally_kept (length c.args.sown.now.specifications.items) so.judged c.loop-number.tally w.cover.new.self w.in_ok-cover.ensures.counts w.in_ok-cover.ensures.shortest so.tallied) in
          let covered : IsCovered c.args.sown.now.ready.program c.args.sown.now.ready.source c.args.seeds.now.run.coverage w.add.new.self.coverage judged =
          covered_kept c.args.sown.now.ready.program c.args.sown.now.ready.source c.args.seeds.now.run.coverage judged w.cover.new.self w.add.new.self w.add.ensures.coverage
          (w.in_ok-cover.ensures.covered c.args.sown.now.ready.program c.args.sown.now.ready.source c.args.seeds.now.run.coverage so.judged so.covered) in (
            judged,
            subst (λ (k : Tally). IsTold c.args.sown.now c.args.seeds.now (lines judged) (g.W.Write.contents c.args.output.now) (g.W.Write.contents c.loop-number-test.output) k judged) (sym w.tally-is)
                (subst (λ (out : g.row.W.Denot). IsTold c.args.sown.now c.args.seeds.now (lines judged) (g.W.Write.contents c.args.output.now) (g.W.Write.contents out) w.add.new.self judged) (sym w.output-is)
                (record { count = count; runs = runs_on c.args.sown.now c.args.seeds.now (g.W.Write.contents c.args.output.now) (g.W.Write.contents c.loop-number.output) so.judged c.loop-number.number so.next so.few so.runs so.output j w.in_ok-judged.ensures.judged; tallied = tallied; covered = covered; within = within; output = told_on c.args.sown.now c.args.seeds.now (g.W.Write.contents c.args.output.now) (g.W.Write.contents c.loop-number.output) so.judged c.loop-number.number so.next so.few so.runs so.output j w.in_ok-judged.ensures.judged (g.W.Write.contents w.tell_run.new.output) w.in_ok-tell_run.ensures.ok })),
          )
    ]
