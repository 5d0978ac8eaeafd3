use Rattle.std.proofs.Common.{◌⊎◌, ◌∙◌, ℕ, List, inl, inr, Err, ap, subst, take}
use Rattle.std.specs.Io.KnownBytes.{Appends}
use Rattle.std.specs.Option.{option_copied}
use Rattle.std.specs.String.{string_bytes}
use Rattle.std.proofs.lemmas.Option.{IfSome_then}
use Rattle.std.proofs.lemmas.Result.{err_from_is_err_and}
use Rattle.ioa_system.specs.Outcomes.{ending_of}
use Rattle.ioa_device.specs.declared.failure.LogErr.{LogErr}
use Rattle.ioa_device.specs.Failing.{HasFailed}
use Rattle.ioa_serving.specs.declared.failure.Failure.{Failure}
use Rattle.ioa_serving.specs.Coverage.{BeginsCoverageOf, CoversRun, IsUncovered}
use Rattle.ioa_serving.proofs.Covering.{begun, broken, lent, short, uncovered, ungiven, unread}
use Rattle.ioa_serving.proofs.Refused.{err_so, kept}
use Rattle.ioa_serving.proofs.Kept.{keeps_same}
use Rattle.ioa_serving.proofs.covered.replay_coverage_text.Goals as goal

pub returns-in_err-sourced-clause-refused : goal.returns-in_err-sourced-clause-refused
returns-in_err-sourced-clause-refused g c =
    let e = err_from_is_err_and c.from_residual.result c.from_residual.ensures.1 in
    err_so c.from_residual.result e.0 _ _ e.1 e.2
    (ungiven c.args.text.now (option_copied c.args.composition) (g.R.Read.remaining c.args.input.now)
    (HasFailed (g.R.Device.failure_count c.args.input.now) (g.R.Device.failure_count c.args.input.now)
    ⊎ HasFailed (g.W.Device.failure_count c.args.output.now) (g.W.Device.failure_count c.args.output.now))
    c.args.log c.in_err-sourced.field-0.0 c.in_err-sourced.ensures.refused)

pub returns-in_err-sourced-clause-unwritten : goal.returns-in_err-sourced-clause-unwritten
returns-in_err-sourced-clause-unwritten g c =
    let e = err_from_is_err_and c.from_residual.result c.from_residual.ensures.1 in
    err_so c.from_residual.result e.0 _ _ e.1 e.2
    (kept (BeginsCoverageOf c.args.log c.args.json c.args.text.now (option_copied c.args.composition) (g.R.Read.remaining c.args.input.now)) _ _ c.in_err-sourced.field-0.0
    (keeps_same (g.W.Write.contents c.args.output.now)))

pub returns-in_err-bytes-clause-refused : goal.returns-in_err-bytes-clause-refused
returns-in_err-bytes-clause-refused g c =
    let e = err_from_is_err_and c.from_residual-in_err-bytes.result c.from_residual-in_err-bytes.ensures.1 in
    let of = c.in_ok-sourced.ensures.gives in
    err_so c.from_residual-in_err-bytes.result e.0 _ _ e.1 e.2
    (unread c.args.text.now (option_copied c.args.composition) (g.R.Read.remaining c.args.input.now) _ of.0 of.1 c.args.log c.in_err-bytes.field-0.0 c.in_err-bytes.ensures.only
    (λ h. inl (c.in_err-bytes.ensures.devices.io (ap Err h))))

pub returns-in_err-bytes-clause-unwritten : goal.returns-in_err-bytes-clause-unwritten
returns-in_err-bytes-clause-unwritten g c =
    let e = err_from_is_err_and c.from_residual-in_err-bytes.result c.from_residual-in_err-bytes.ensures.1 in
    err_so c.from_residual-in_err-bytes.result e.0 _ _ e.1 e.2
    (kept (BeginsCoverageOf c.args.log c.args.json c.args.text.now (option_copied c.args.composition) (g.R.Read.remaining c.args.input.now)) _ _ (Failure.List c.in_err-bytes.field-0.0)
    (keeps_same (g.W.Write.contents c.args.output.now)))

pub cover-requires : goal.cover-requires
cover-requires g c = let of = c.in_ok-sourced.ensures.gives in (of.0, of.2, lent c.as_ref-source.result _ of.0 c.as_ref-source.ensures.value of.3)

pub returns-in_err-covered-clause-refused : goal.returns-in_err-covered-clause-refused
returns-in_err-covered-clause-refused g c =
    let e = err_from_is_err_and c.from_residual-in_err-covered.result c.from_residual-in_err-covered.ensures.1 in
    let of = c.in_ok-sourced.ensures.gives in
    let x = c.in_err-covered.field-0.0 in
    let read = c.in_ok-bytes.bytes.items in
    err_so c.from_residual-in_err-covered.result e.0 _ _ e.1 e.2
    (uncovered c.args.text.now (option_copied c.args.composition) (g.R.Read.remaining c.args.input.now) _ of.0 of.1 c.args.log x read (λ h. c.in_err-covered.ensures.io (ap Err h))
    (subst (λ (b : List ℕ). IsUncovered c.args.log x of.0 b) c.as_slice.ensures.value (c.in_err-covered.ensures.refused of.0 of.2)) c.in_ok-bytes.ensures.ok)

pub returns-in_err-covered-clause-unwritten : goal.returns-in_err-covered-clause-unwritten
returns-in_err-covered-clause-unwritten g c =
    let e = err_from_is_err_and c.from_residual-in_err-covered.result c.from_residual-in_err-covered.ensures.1 in
    err_so c.from_residual-in_err-covered.result e.0 _ _ e.1 e.2
    (kept (BeginsCoverageOf c.args.log c.args.json c.args.text.now (option_copied c.args.composition) (g.R.Read.remaining c.args.input.now)) _ _ (Failure.List c.in_err-covered.field-0.0)
    (keeps_same (g.W.Write.contents c.args.output.now)))

pub returns-in_err-written-clause-refused : goal.returns-in_err-written-clause-refused
returns-in_err-written-clause-refused g c =
    let e = err_from_is_err_and c.from_residual-in_err-written.result c.from_residual-in_err-written.ensures.1 in
    let of = c.in_ok-sourced.ensures.gives in
    err_so c.from_residual-in_err-written.result e.0 _ _ e.1 e.2
    (short c.args.text.now (option_copied c.args.composition) (g.R.Read.remaining c.args.input.now) _ of.0 of.1 c.args.log)

pub returns-in_err-written-clause-unwritten : goal.returns-in_err-written-clause-unwritten
returns-in_err-written-clause-unwritten g c =
    let e = err_from_is_err_and c.from_residual-in_err-written.result c.from_residual-in_err-written.ensures.1 in
    err_so c.from_residual-in_err-written.result e.0 _ _ e.1 e.2
    (kept (BeginsCoverageOf c.args.log c.args.json c.args.text.now (option_copied c.args.composition) (g.R.Read.remaining c.args.input.now)) _ _ Failure.OutOfMemory
    (keeps_same (g.W.Write.contents c.args.output.now)))

pub returns-in_err-send_all-clause-refused : goal.returns-in_err-send_all-clause-refused
returns-in_err-send_all-clause-refused g c =
    let e = err_from_is_err_and c.from_residual-in_err-send_all.result c.from_residual-in_err-send_all.ensures.1 in
    let of = c.in_ok-sourced.ensures.gives in
    err_so c.from_residual-in_err-send_all.result e.0 (Failure.List LogErr.Io) _ e.1 (e.2 ∙ ap Failure.List c.in_err-send_all.ensures.io.0)
    (broken c.args.text.now (option_copied c.args.composition) (g.R.Read.remaining c.args.input.now) _ of.0 of.1 c.args.log (inr c.in_err-send_all.ensures.io.1))

pub returns-in_err-send_all-clause-unwritten : goal.returns-in_err-send_all-clause-unwritten
returns-in_err-send_all-clause-unwritten g c =
    let e = err_from_is_err_and c.from_residual-in_err-send_all.result c.from_residual-in_err-send_all.ensures.1 in
    let of = c.in_ok-sourced.ensures.gives in
    let d = c.in_ok-covered.covered in
    let read = c.in_ok-bytes.bytes.items in
    let text = string_bytes d.text in
    let some = subst (λ (t : List ℕ). (k : ℕ) × Appends (g.W.Write.contents c.args.output.now) (g.W.Write.contents c.send_all.new.output) (take k t)) (c.as_slice-2.ensures.value ∙ c.in_ok-written.ensures) c.in_err-send_all.ensures.begun in
    let covers = subst (λ (b : List ℕ). CoversRun c.args.log of.0 b (ending_of d.end) text (string_bytes d.told)) c.as_slice.ensures.value (c.in_ok-covered.ensures.ok of.0 of.2 (lent c.as_ref-source.result _ of.0 c.as_ref-source.ensures.value of.3)) in
    err_so c.from_residual-in_err-send_all.result e.0 (Failure.List LogErr.Io) _ e.1 (e.2 ∙ ap Failure.List c.in_err-send_all.ensures.io.0)
    (inr (begun c.args.text.now (option_copied c.args.composition) (g.R.Read.remaining c.args.input.now) (Unit {0}) of.0 of.1 c.args.log c.args.json read (ending_of d.end) text (string_bytes d.told) _ _ covers some
    c.in_ok-bytes.ensures.ok))

pub returns-clause-replays : goal.returns-clause-replays
returns-clause-replays g c =
    let of = c.in_ok-sourced.ensures.gives in
    let d = c.in_ok-covered.covered in
    let text = string_bytes d.text in
    let covers = subst (λ (b : List ℕ). CoversRun c.args.log of.0 b (ending_of d.end) text (string_bytes d.told)) c.as_slice.ensures.value (c.in_ok-covered.ensures.ok of.0 of.2 (lent c.as_ref-source.result _ of.0 c.as_ref-source.ensures.value of.3)) in
    let all = subst (λ (t : List ℕ). Appends (g.W.Write.contents c.args.output.now) (g.W.Write.contents c.send_all.new.output) t) (c.as_slice-2.ensures.value ∙ c.in_ok-written.ensures) c.in_ok-send_all.ensures.ok in
    IfSome_then (g.R.Read.remaining c.args.input.now) c.in_ok-bytes.ensures.ok
    (λ xs same. (of.0, of.1, (text, subst (λ (b : List ℕ). CoversRun c.args.log of.0 b (ending_of d.end) text (string_bytes d.told)) same covers, all)))
