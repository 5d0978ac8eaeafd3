use Rattle.std.proofs.Common.{◌⊎◌, inl, inr, Err, ap}
use Rattle.std.specs.Option.{option_copied}
use Rattle.std.proofs.lemmas.Option.{IfSome_then}
use Rattle.std.proofs.lemmas.Result.{err_from_is_err_and}
use Rattle.ioa_device.specs.Failing.{HasFailed}
use Rattle.ioa_serving.specs.Failing.{BeginsLogOf}
use Rattle.ioa_serving.proofs.Refused.{err_so, kept, log_replay_refused, log_replay_ungiven, log_replay_unwritten}
use Rattle.ioa_serving.proofs.Kept.{keeps_same}
use Rattle.ioa_serving.proofs.log_replay.replay_log_text.Goals as goal

pub returns-in_err-program-clause-refused : goal.returns-in_err-program-clause-refused
returns-in_err-program-clause-refused g c =
    let e = err_from_is_err_and c.from_residual.result c.from_residual.ensures.1 in
    err_so c.from_residual.result e.0 _ _ e.1 e.2
    (log_replay_ungiven c.args.text.now (option_copied c.args.composition) (g.R.Read.remaining c.args.input.now)
    (HasFailed (g.R.Device.failure_count c.args.input.now) (g.R.Device.failure_count c.args.input.now)
    ⊎ HasFailed (g.W.Device.failure_count c.args.output.now) (g.W.Device.failure_count c.args.output.now))
    c.in_err-program.field-0.0 c.in_err-program.ensures.refused)

pub returns-in_err-program-clause-unwritten : goal.returns-in_err-program-clause-unwritten
returns-in_err-program-clause-unwritten g c =
    let e = err_from_is_err_and c.from_residual.result c.from_residual.ensures.1 in
    err_so c.from_residual.result e.0 _ _ e.1 e.2
    (kept (BeginsLogOf c.args.text.now (option_copied c.args.composition) (g.R.Read.remaining c.args.input.now)) _ _ c.in_err-program.field-0.0
    (keeps_same (g.W.Write.contents c.args.output.now)))

pub returns-in_err-end-clause-refused : goal.returns-in_err-end-clause-refused
returns-in_err-end-clause-refused g c =
    let e = err_from_is_err_and c.from_residual-in_err-end.result c.from_residual-in_err-end.ensures.1 in
    let x = c.in_err-end.field-0.0 in
    let of = c.in_ok-program.ensures.gives in
    err_so c.from_residual-in_err-end.result e.0 _ _ e.1 e.2
    (log_replay_refused c.args.text.now (option_copied c.args.composition) _ _ of.0 x of.1 (λ h. c.in_err-end.ensures.devices.io (ap Err h))
    (c.in_err-end.ensures.refused of.0 of.2))

pub returns-in_err-end-clause-unwritten : goal.returns-in_err-end-clause-unwritten
returns-in_err-end-clause-unwritten g c =
    let e = err_from_is_err_and c.from_residual-in_err-end.result c.from_residual-in_err-end.ensures.1 in
    let x = c.in_err-end.field-0.0 in
    let of = c.in_ok-program.ensures.gives in
    let begins = BeginsLogOf c.args.text.now (option_copied c.args.composition) (g.R.Read.remaining c.args.input.now) in
    err_so c.from_residual-in_err-end.result e.0 _ _ e.1 e.2
    (log_replay_unwritten begins _ _ x c.in_err-end.ensures.unwritten
    (λ h. elim (c.in_err-end.ensures.begun (ap Err h)) [
      | inl k ↦ inl k
      | inr k ↦ inr (of.0, of.1, k of.0 of.2)
    ]))

pub returns-clause-replays : goal.returns-clause-replays
returns-clause-replays g c =
    let of = c.in_ok-program.ensures.gives in
    IfSome_then (g.R.Read.remaining c.args.input.now) (c.in_ok-end.ensures.ok of.0 of.2) (λ xs k. (of.0, of.1, k))
