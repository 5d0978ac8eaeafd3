use Rattle.std.proofs.Common.{◌⊎◌, inl, inr, Err, true, ◌∙◌, ap, subst, take}
use Rattle.std.specs.Io.KnownBytes.{Appends}
use Rattle.std.specs.Option.{option_copied}
use Rattle.std.proofs.lemmas.Option.{IfSome_then}
use Rattle.std.proofs.lemmas.Result.{err_from_is_err_and}
use Rattle.ioa_device.specs.declared.failure.LogErr.{LogErr}
use Rattle.ioa_device.specs.Failing.{HasFailed}
use Rattle.ioa_serving.specs.declared.failure.Failure.{Failure}
use Rattle.ioa_serving.specs.Objects.{BeginsLogReplayAs}
use Rattle.ioa_serving.proofs.Refused.{err_so, kept, log_replay_refused, log_replay_ungiven}
use Rattle.ioa_serving.proofs.Kept.{keeps_same}
use Rattle.ioa_serving.proofs.replay_objects.replay_log_objects_text.Goals as goal

pub returns-in_err-program-clause-refused : goal.returns-in_err-program-clause-refused
returns-in_err-program-clause-refused g c =
    let e = err_from_is_err_and c.from_residual.result c.from_residual.ensures.1 in
    err_so c.from_residual.result e.0 _ _ e.1 e.2
    (log_replay_ungiven c.args.text.now (option_copied c.args.composition) (g.R.Read.remaining c.args.input.now)
    (HasFailed (g.R.Device.failure_count c.args.input.now) (g.R.Device.failure_count c.args.input.now)
    ⊎ HasFailed (g.W.Device.failure_count c.args.output.now) (g.W.Device.failure_count c.args.output.now))
    c.in_err-program.field-0.0 c.in_err-program.ensures.refused)

pub returns-in_err-program-clause-unwritten : goal.returns-in_err-program-clause-unwritten
returns-in_err-program-clause-unwritten g c =
    let e = err_from_is_err_and c.from_residual.result c.from_residual.ensures.1 in
    err_so c.from_residual.result e.0 _ _ e.1 e.2
    (kept (BeginsLogReplayAs true c.args.text.now (option_copied c.args.composition) (g.R.Read.remaining c.args.input.now)) _ _ c.in_err-program.field-0.0
    (keeps_same (g.W.Write.contents c.args.output.now)))

pub returns-in_err-told-clause-refused : goal.returns-in_err-told-clause-refused
returns-in_err-told-clause-refused g c =
    let e = err_from_is_err_and c.from_residual-in_err-told.result c.from_residual-in_err-told.ensures.1 in
    let of = c.in_ok-program.ensures.gives in
    err_so c.from_residual-in_err-told.result e.0 _ _ e.1 e.2
    (log_replay_refused c.args.text.now (option_copied c.args.composition) _ _ of.0 c.in_err-told.field-0.0 of.1 (λ h. inl (c.in_err-told.ensures.devices.io (ap Err h)))
    (c.in_err-told.ensures.refused of.0 of.2))

pub returns-in_err-told-clause-unwritten : goal.returns-in_err-told-clause-unwritten
returns-in_err-told-clause-unwritten g c =
    let e = err_from_is_err_and c.from_residual-in_err-told.result c.from_residual-in_err-told.ensures.1 in
    err_so c.from_residual-in_err-told.result e.0 _ _ e.1 e.2
    (kept (BeginsLogReplayAs true c.args.text.now (option_copied c.args.composition) (g.R.Read.remaining c.args.input.now)) _ _ (Failure.List c.in_err-told.field-0.0)
    (keeps_same (g.W.Write.contents c.args.output.now)))

pub returns-in_err-send_all-clause-refused : goal.returns-in_err-send_all-clause-refused
returns-in_err-send_all-clause-refused g c =
    let e = err_from_is_err_and c.from_residual-in_err-send_all.result c.from_residual-in_err-send_all.ensures.1 in
    let of = c.in_ok-program.ensures.gives in
    err_so c.from_residual-in_err-send_all.result e.0 (Failure.List LogErr.Io) _ e.1 (e.2 ∙ ap Failure.List c.in_err-send_all.ensures.io.0)
    (of.0, of.1, inr c.in_err-send_all.ensures.io.1)

pub returns-in_err-send_all-clause-unwritten : goal.returns-in_err-send_all-clause-unwritten
returns-in_err-send_all-clause-unwritten g c =
    let e = err_from_is_err_and c.from_residual-in_err-send_all.result c.from_residual-in_err-send_all.ensures.1 in
    let of = c.in_ok-program.ensures.gives in
    let begun = c.in_err-send_all.ensures.begun in
    err_so c.from_residual-in_err-send_all.result e.0 (Failure.List LogErr.Io) _ e.1 (e.2 ∙ ap Failure.List c.in_err-send_all.ensures.io.0)
    (inr (
      of.0,
      of.1,
      IfSome_then (g.R.Read.remaining c.args.input.now) (c.in_ok-told.ensures.ok of.0 of.2) (λ xs d. (
        d.log,
        d.is_log,
        (begun.0, subst (λ t. Appends (g.W.Write.contents c.args.output.now) (g.W.Write.contents c.send_all.new.output) (take begun.0 t)) (c.as_slice.ensures.value ∙ d.text) begun.1),
      )),
    ))

pub returns-clause-replays : goal.returns-clause-replays
returns-clause-replays g c =
    let of = c.in_ok-program.ensures.gives in
    IfSome_then (g.R.Read.remaining c.args.input.now) (c.in_ok-told.ensures.ok of.0 of.2) (λ xs d. (
      of.0,
      of.1,
      (
        d.log,
        d.is_log,
        d.ending,
        subst (λ t. Appends (g.W.Write.contents c.args.output.now) (g.W.Write.contents c.send_all.new.output) t) (c.as_slice.ensures.value ∙ d.text) c.in_ok-send_all.ensures.ok,
      ),
    ))
