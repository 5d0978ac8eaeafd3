use Rattle.std.proofs.Common.{◌⊎◌, ℕ, inl, inr, Err, ◌∙◌, ap, subst, take}
use Rattle.std.specs.Io.KnownBytes.{Appends}
use Rattle.std.specs.Option.{option_copied}
use Rattle.std.proofs.lemmas.Option.{IfSome_then}
use Rattle.std.proofs.lemmas.Result.{err_from_is_err_and}
use Rattle.ioa_device.specs.declared.failure.LogErr.{LogErr}
use Rattle.ioa_device.specs.Failing.{HasFailed}
use Rattle.ioa_serving.specs.declared.failure.Failure.{Failure}
use Rattle.ioa_serving.specs.Logs.{answer_line}
use Rattle.ioa_serving.specs.Failing.{BeginsMonitorOf}
use Rattle.ioa_serving.proofs.Refused.{err_so, kept, monitor_refused, monitor_ungiven}
use Rattle.ioa_serving.proofs.Kept.{keeps_same}
use Rattle.ioa_serving.proofs.monitor.monitor_text.Goals as goal

pub returns-in_err-program-clause-refused : goal.returns-in_err-program-clause-refused
returns-in_err-program-clause-refused g c =
    let e = err_from_is_err_and c.from_residual.result c.from_residual.ensures.1 in
    err_so c.from_residual.result e.0 _ _ e.1 e.2
    (monitor_ungiven c.args.text.now (option_copied c.args.composition) (g.R.Read.remaining c.args.input.now)
    (HasFailed (g.R.Device.failure_count c.args.input.now) (g.R.Device.failure_count c.args.input.now)
    ⊎ HasFailed (g.W.Device.failure_count c.args.output.now) (g.W.Device.failure_count c.args.output.now))
    c.in_err-program.field-0.0 c.in_err-program.ensures.refused)

pub returns-in_err-program-clause-unwritten : goal.returns-in_err-program-clause-unwritten
returns-in_err-program-clause-unwritten g c =
    let e = err_from_is_err_and c.from_residual.result c.from_residual.ensures.1 in
    err_so c.from_residual.result e.0 _ _ e.1 e.2
    (kept (BeginsMonitorOf c.args.json c.args.text.now (option_copied c.args.composition) (g.R.Read.remaining c.args.input.now)) _ _ c.in_err-program.field-0.0
    (keeps_same (g.W.Write.contents c.args.output.now)))

pub returns-then-hides_actions-clause-refused : goal.returns-then-hides_actions-clause-refused
returns-then-hides_actions-clause-refused g c =
    let of = c.in_ok-program.ensures.gives in
    (of.0, of.1, c.hides_actions.ensures.closed c.if-hides_actions.true of.0 of.2)

pub returns-in_err-answer-clause-refused : goal.returns-in_err-answer-clause-refused
returns-in_err-answer-clause-refused g c =
    let e = err_from_is_err_and c.from_residual-in_err-answer.result c.from_residual-in_err-answer.ensures.1 in
    let x : LogErr = c.in_err-answer.field-0.0 in
    let of = c.in_ok-program.ensures.gives in
    let said = c.in_err-answer.ensures in
    err_so c.from_residual-in_err-answer.result e.0 _ _ e.1 e.2
    (monitor_refused c.args.text.now (option_copied c.args.composition) _ _ of.0 x of.1 (c.hides_actions.ensures.open c.if-hides_actions.false of.0 of.2) said.only
    (λ h. inl (said.devices.io (ap Err h))) (said.refused of.0 of.2))

pub returns-in_err-send_all-clause-refused : goal.returns-in_err-send_all-clause-refused
returns-in_err-send_all-clause-refused g c =
    let e = err_from_is_err_and c.from_residual-in_err-send_all.result c.from_residual-in_err-send_all.ensures.1 in
    let of = c.in_ok-program.ensures.gives in
    err_so c.from_residual-in_err-send_all.result e.0 (Failure.List LogErr.Io) _ e.1 (e.2 ∙ ap Failure.List c.in_err-send_all.ensures.io.0)
    (of.0, of.1, c.hides_actions.ensures.open c.if-hides_actions.false of.0 of.2, inr c.in_err-send_all.ensures.io.1)

pub returns-clause-monitors : goal.returns-clause-monitors
returns-clause-monitors g c =
    let of = c.in_ok-program.ensures.gives in
    let seen = c.hides_actions.ensures.open c.if-hides_actions.false of.0 of.2 in
    let all = subst (λ t. Appends (g.W.Write.contents c.args.output.now) (g.W.Write.contents c.send_all.new.output) t) (c.as_bytes.ensures.value ∙ c.in_ok-line.ensures) c.in_ok-send_all.ensures.ok in
    IfSome_then (g.R.Read.remaining c.args.input.now) (c.in_ok-answer.ensures.answers of.0 of.2)
    (λ xs k.
    (of.0, of.1, (seen, (k.0, k.1, k.2, all))))

pub returns-in_err-send_all-clause-unwritten : goal.returns-in_err-send_all-clause-unwritten
returns-in_err-send_all-clause-unwritten g c =
    let e = err_from_is_err_and c.from_residual-in_err-send_all.result c.from_residual-in_err-send_all.ensures.1 in
    let of = c.in_ok-program.ensures.gives in
    let seen = c.hides_actions.ensures.open c.if-hides_actions.false of.0 of.2 in
    let line = c.as_bytes.ensures.value ∙ c.in_ok-line.ensures in
    err_so c.from_residual-in_err-send_all.result e.0 (Failure.List LogErr.Io) _ e.1 (e.2 ∙ ap Failure.List c.in_err-send_all.ensures.io.0)
    (inr (
      of.0,
      of.1,
      IfSome_then (g.R.Read.remaining c.args.input.now) (c.in_ok-answer.ensures.answers of.0 of.2)
          (λ xs k.
          let begun = subst (λ t. (n : ℕ) × Appends (g.W.Write.contents c.args.output.now) (g.W.Write.contents c.send_all.new.output) (take n t)) (line ∙ ap (answer_line c.args.json) k.2)
          c.in_err-send_all.ensures.begun in
          (seen, (k.0, k.1, begun))),
    ))
