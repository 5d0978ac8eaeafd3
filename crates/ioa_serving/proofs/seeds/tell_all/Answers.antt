use Rattle.std.proofs.Common.{◌∙◌, ℕ, List, ap, inr, subst, sym, take}
use Rattle.std.specs.Io.KnownBytes.{Appends}
use Rattle.std.proofs.lemmas.Result.{err_from_is_err_and}
use Rattle.ioa_serving.specs.declared.failure.Failure.{Failure}
use Rattle.ioa_device.specs.Failing.{HasFailed}
use Rattle.ioa_serving.proofs.Refused.{err_so}
use Rattle.ioa_serving.proofs.SeedCuts.{lent_count}
use Rattle.ioa_serving.proofs.SeedsTold.{addable, counted_all, cut_in_counts, told_with, uncounted}
use Rattle.ioa_serving.proofs.seeds.tell_all.Goals as goal

pub returns-in_err-tally-clause-refused : goal.returns-in_err-tally-clause-refused
returns-in_err-tally-clause-refused g c =
    let e = err_from_is_err_and c.from_residual.result c.from_residual.ensures.1 in
    err_so c.from_residual.result e.0 _ _ e.1 e.2 c.in_err-tally.ensures.refused

pub returns-in_err-coverage-clause-refused : goal.returns-in_err-coverage-clause-refused
returns-in_err-coverage-clause-refused g c =
    let e = err_from_is_err_and c.from_residual-in_err-coverage.result c.from_residual-in_err-coverage.ensures.1 in
    let told = c.in_ok-tally.ensures.told in
    err_so c.from_residual-in_err-coverage.result e.0 _ _ e.1 e.2
    (inr (uncounted c.args.sown.now c.args.seeds.now (c.requires.many ∙ sym (lent_count c.args.seeds.now.monitors.now)) (g.W.Write.contents c.args.output.now) (g.W.Write.contents c.tell_runs.new.output) c.in_ok-tally.tally told.0 told.1
    (HasFailed (g.W.Device.failure_count c.args.output.now) (g.W.Device.failure_count c.tell_runs.new.output))))

pub counts_text-requires-clause-sums : goal.counts_text-requires-clause-sums
counts_text-requires-clause-sums g c =
    let told = c.in_ok-tally.ensures.told in
    addable c.args.sown.now c.args.seeds.now (c.requires.many ∙ sym (lent_count c.args.seeds.now.monitors.now)) (g.W.Write.contents c.args.output.now) (g.W.Write.contents c.tell_runs.new.output) c.in_ok-tally.tally told.0 told.1

pub counts_text-requires-clause-counted : goal.counts_text-requires-clause-counted
counts_text-requires-clause-counted g c =
    let told = c.in_ok-tally.ensures.told in
    counted_all c.args.sown.now c.args.seeds.now (c.requires.many ∙ sym (lent_count c.args.seeds.now.monitors.now)) c.in_ok-tally.tally told.0 told.1.tallied
    ∙ lent_count c.args.seeds.now.monitors.now

pub returns-in_err-line-clause-refused : goal.returns-in_err-line-clause-refused
returns-in_err-line-clause-refused g c =
    let e = err_from_is_err_and c.from_residual-in_err-line.result c.from_residual-in_err-line.ensures.1 in
    let told = c.in_ok-tally.ensures.told in
    err_so c.from_residual-in_err-line.result e.0 _ _ e.1 e.2
    (inr (uncounted c.args.sown.now c.args.seeds.now (c.requires.many ∙ sym (lent_count c.args.seeds.now.monitors.now)) (g.W.Write.contents c.args.output.now) (g.W.Write.contents c.tell_runs.new.output) c.in_ok-tally.tally told.0 told.1
    (HasFailed (g.W.Device.failure_count c.args.output.now) (g.W.Device.failure_count c.tell_runs.new.output))))

pub returns-in_err-send_all-clause-refused : goal.returns-in_err-send_all-clause-refused
returns-in_err-send_all-clause-refused g c =
    let e = err_from_is_err_and c.from_residual-in_err-send_all.result c.from_residual-in_err-send_all.ensures.1 in
    let told = c.in_ok-tally.ensures.told in
    err_so c.from_residual-in_err-send_all.result e.0 _ _ e.1 (e.2 ∙ ap Failure.List c.in_err-send_all.ensures.io.0)
    (inr (cut_in_counts c.args.sown.now c.args.seeds.now (c.requires.many ∙ sym (lent_count c.args.seeds.now.monitors.now)) (g.W.Write.contents c.args.output.now) (g.W.Write.contents c.tell_runs.new.output) c.in_ok-tally.tally told.0 told.1
    (HasFailed (g.W.Device.failure_count c.args.output.now) (g.W.Device.failure_count c.send_all.new.output)) (g.W.Write.contents c.send_all.new.output)
    (subst (λ n. HasFailed n (g.W.Device.failure_count c.send_all.new.output)) (c.in_ok-tally.ensures.devices.passed (λ e. cc)) c.in_err-send_all.ensures.io.1)
    (subst (λ (t : List ℕ). (n : ℕ) × Appends (g.W.Write.contents c.tell_runs.new.output) (g.W.Write.contents c.send_all.new.output) (take n t)) (c.as_bytes.ensures.value ∙ c.in_ok-line.ensures)
    c.in_err-send_all.ensures.begun)))

pub returns-clause-told : goal.returns-clause-told
returns-clause-told g c =
    let told = c.in_ok-tally.ensures.told in (
      told.0,
      told_with c.args.sown.now c.args.seeds.now (c.requires.many ∙ sym (lent_count c.args.seeds.now.monitors.now)) (g.W.Write.contents c.args.output.now) (g.W.Write.contents c.tell_runs.new.output) c.in_ok-tally.tally told.0 told.1
          (g.W.Write.contents c.send_all.new.output)
          (subst (λ (t : List ℕ). Appends (g.W.Write.contents c.tell_runs.new.output) (g.W.Write.contents c.send_all.new.output) t) (c.as_bytes.ensures.value ∙ c.in_ok-line.ensures) c.in_ok-send_all.ensures.ok),
      λ x runs of. c.in_ok-coverage.ensures c.args.sown.now.ready.program c.args.sown.now.ready.source c.args.seeds.now.run.coverage x told.0 told.1.covered runs of,
    )
