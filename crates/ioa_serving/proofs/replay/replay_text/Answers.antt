use Rattle.std.specs.Option.{option_copied}
use Rattle.std.proofs.Common.{◌⊎◌, inl, inr}
use Rattle.std.proofs.lemmas.Option.{IfSome_then}
use Rattle.std.proofs.lemmas.Result.{err_from_is_err_and}
use Rattle.ioa_compile.proofs.Subjects.{does_as}
use Rattle.ioa_device.specs.Failing.{HasFailed}
use Rattle.ioa_replay.specs.ListReplays.{BeginsReplay}
use Rattle.ioa_serving.specs.Failing.{BeginsReplayOf}
use Rattle.ioa_serving.proofs.Refused.{err_so, kept, list_failed, list_ungiven, list_unwritten}
use Rattle.ioa_serving.proofs.Kept.{keeps_same}
use Rattle.ioa_serving.proofs.replay.replay_text.Goals as goal

pub returns-in_err-program-clause-refused : goal.returns-in_err-program-clause-refused
returns-in_err-program-clause-refused g c =
    let e = err_from_is_err_and c.from_residual.result c.from_residual.ensures.1 in
    err_so c.from_residual.result e.0 _ _ e.1 e.2
    (list_ungiven c.args.text.now (option_copied c.args.composition) (g.R.Read.remaining c.args.input.now)
    (HasFailed (g.R.Device.failure_count c.args.input.now) (g.R.Device.failure_count c.args.input.now)
    ⊎ HasFailed (g.W.Device.failure_count c.args.output.now) (g.W.Device.failure_count c.args.output.now))
    c.in_err-program.field-0.0 c.in_err-program.ensures.refused)

pub returns-in_err-program-clause-unwritten : goal.returns-in_err-program-clause-unwritten
returns-in_err-program-clause-unwritten g c =
    let e = err_from_is_err_and c.from_residual.result c.from_residual.ensures.1 in
    err_so c.from_residual.result e.0 _ _ e.1 e.2
    (kept (BeginsReplayOf c.args.text.now (option_copied c.args.composition) (g.R.Read.remaining c.args.input.now)) _ _ c.in_err-program.field-0.0
    (keeps_same (g.W.Write.contents c.args.output.now)))

pub returns-clause-replays : goal.returns-clause-replays
returns-clause-replays g c =
    let of = c.in_ok-program.ensures.gives in
    IfSome_then (g.R.Read.remaining c.args.input.now) (c.in_ok-end.ensures.ok of.0 of.2) (λ xs r. (of.0, of.1, r))

pub returns-in_err-end-clause-refused : goal.returns-in_err-end-clause-refused
returns-in_err-end-clause-refused g c =
    let e = err_from_is_err_and c.from_residual-in_err-end.result c.from_residual-in_err-end.ensures.1 in
    let x = c.in_err-end.field-0.0 in
    let of = c.in_ok-program.ensures.gives in
    err_so c.from_residual-in_err-end.result e.0 _ _ e.1 e.2
    (list_failed c.args.text.now (option_copied c.args.composition) _ _ of.0 c.in_ok-program.program.types x of.1 (does_as c.in_ok-program.program of.0 of.2).types
    c.in_err-end.ensures.only c.in_err-end.ensures.bad c.in_err-end.ensures.devices.io)

pub returns-in_err-end-clause-unwritten : goal.returns-in_err-end-clause-unwritten
returns-in_err-end-clause-unwritten g c =
    let e = err_from_is_err_and c.from_residual-in_err-end.result c.from_residual-in_err-end.ensures.1 in
    let x = c.in_err-end.field-0.0 in
    let of = c.in_ok-program.ensures.gives in
    let before = g.W.Write.contents c.args.output.now in
    let after = g.W.Write.contents c.replay_list.new.output in
    err_so c.from_residual-in_err-end.result e.0 _ _ e.1 e.2
    (list_unwritten c.args.text.now (option_copied c.args.composition) (g.R.Read.remaining c.args.input.now) before after
    (λ b a s xs. BeginsReplay s xs b a) of.0 x of.1 c.in_err-end.ensures.only
    c.in_err-end.ensures.unwritten c.in_err-end.ensures.memory
    (λ io. elim (c.in_err-end.ensures.begun io) [
      | inl k ↦ inl k
      | inr k ↦ inr (k of.0 of.2)
    ]))
