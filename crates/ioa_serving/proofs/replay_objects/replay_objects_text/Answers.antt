use Rattle.std.proofs.Common.{◌⊎◌, inl, inr, true, ◌∙◌, ap, subst, take}
use Rattle.std.specs.Io.KnownBytes.{Appends}
use Rattle.std.specs.Option.{option_copied}
use Rattle.std.proofs.lemmas.Option.{IfSome_then}
use Rattle.std.proofs.lemmas.Result.{err_from_is_err_and}
use Rattle.ioa_device.specs.declared.failure.LogErr.{LogErr}
use Rattle.ioa_device.specs.Failing.{HasFailed}
use Rattle.ioa_compile.proofs.Subjects.{does_as}
use Rattle.ioa_serving.specs.declared.failure.Failure.{Failure}
use Rattle.ioa_serving.specs.Objects.{BeginsReplayAs}
use Rattle.ioa_serving.proofs.Refused.{err_so, kept, list_failed, list_ungiven}
use Rattle.ioa_serving.proofs.Kept.{keeps_same}
use Rattle.ioa_serving.proofs.replay_objects.replay_objects_text.Goals as goal

pub returns-in_err-program-clause-refused : goal.returns-in_err-program-clause-refused
returns-in_err-program-clause-refused g c =
    let e = err_from_is_err_and c.from_residual.result c.from_residual.ensures.1 in
    err_so c.from_residual.result e.0 _ _ e.1 e.2
    (list_ungiven c.args.text.now (option_copied c.args.composition) (g.R.Read.remaining c.args.input.now)
    (HasFailed (g.R.Device.failure_count c.args.input.now) (g.R.Device.failure_count c.args.input.now)
    ⊎ HasFailed (g.W.Device.failure_count c.args.output.now) (g.W.Device.failure_count c.args.output.now))
    c.in_err-program.field-0.0 c.in_err-program.ensures.refused)

pub returns-in_err-program-clause-unwritten : goal.returns-in_err-program-clause-unwritten
returns-in_err-program-clause-unwritten g c =
    let e = err_from_is_err_and c.from_residual.result c.from_residual.ensures.1 in
    err_so c.from_residual.result e.0 _ _ e.1 e.2
    (kept (BeginsReplayAs true c.args.text.now (option_copied c.args.composition) (g.R.Read.remaining c.args.input.now)) _ _ c.in_err-program.field-0.0
    (keeps_same (g.W.Write.contents c.args.output.now)))

pub returns-in_err-told-clause-refused : goal.returns-in_err-told-clause-refused
returns-in_err-told-clause-refused g c =
    let e = err_from_is_err_and c.from_residual-in_err-told.result c.from_residual-in_err-told.ensures.1 in
    let of = c.in_ok-program.ensures.gives in
    let said = c.in_err-told.ensures in
    err_so c.from_residual-in_err-told.result e.0 _ _ e.1 e.2
    (list_failed c.args.text.now (option_copied c.args.composition) _ _ of.0 c.in_ok-program.program.types c.in_err-told.field-0.0 of.1 (does_as c.in_ok-program.program of.0 of.2).types
    said.only said.bad (λ io. inl (said.devices.io io)))

pub returns-in_err-told-clause-unwritten : goal.returns-in_err-told-clause-unwritten
returns-in_err-told-clause-unwritten g c =
    let e = err_from_is_err_and c.from_residual-in_err-told.result c.from_residual-in_err-told.ensures.1 in
    err_so c.from_residual-in_err-told.result e.0 _ _ e.1 e.2
    (kept (BeginsReplayAs true c.args.text.now (option_copied c.args.composition) (g.R.Read.remaining c.args.input.now)) _ _ (Failure.List c.in_err-told.field-0.0)
    (keeps_same (g.W.Write.contents c.args.output.now)))

pub returns-in_err-send_all-clause-refused : goal.returns-in_err-send_all-clause-refused
returns-in_err-send_all-clause-refused g c =
    let e = err_from_is_err_and c.from_residual-in_err-send_all.result c.from_residual-in_err-send_all.ensures.1 in
    let of = c.in_ok-program.ensures.gives in
    err_so c.from_residual-in_err-send_all.result e.0 (Failure.List LogErr.Io) _ e.1 (e.2 ∙ ap Failure.List c.in_err-send_all.ensures.io.0)
    (of.0, of.1, inr c.in_err-send_all.ensures.io.1)

pub returns-in_err-send_all-clause-unwritten : goal.returns-in_err-send_all-clause-unwritten
returns-in_err-send_all-clause-unwritten g c =
    let e = err_from_is_err_and c.from_residual-in_err-send_all.result c.from_residual-in_err-send_all.ensures.1 in
    let of = c.in_ok-program.ensures.gives in
    let begun = c.in_err-send_all.ensures.begun in
    err_so c.from_residual-in_err-send_all.result e.0 (Failure.List LogErr.Io) _ e.1 (e.2 ∙ ap Failure.List c.in_err-send_all.ensures.io.0)
    (inr (
      of.0,
      of.1,
      IfSome_then (g.R.Read.remaining c.args.input.now) (c.in_ok-told.ensures.ok of.0 of.2) (λ xs d. (
        d.acts,
        d.reads,
        (begun.0, subst (λ t. Appends (g.W.Write.contents c.args.output.now) (g.W.Write.contents c.send_all.new.output) (take begun.0 t)) (c.as_slice.ensures.value ∙ d.text) begun.1),
      )),
    ))

pub returns-clause-replays : goal.returns-clause-replays
returns-clause-replays g c =
    let of = c.in_ok-program.ensures.gives in
    IfSome_then (g.R.Read.remaining c.args.input.now) (c.in_ok-told.ensures.ok of.0 of.2) (λ xs d. (
      of.0,
      of.1,
      (
        d.acts,
        d.reads,
        d.ending,
        subst (λ t. Appends (g.W.Write.contents c.args.output.now) (g.W.Write.contents c.send_all.new.output) t) (c.as_slice.ensures.value ∙ d.text) c.in_ok-send_all.ensures.ok,
      ),
    ))
