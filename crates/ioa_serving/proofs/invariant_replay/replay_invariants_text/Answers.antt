use Rattle.std.proofs.Common.{ℕ, inl, inr, Err, ◌∙◌, ap, refl, subst, sym, take}
use Rattle.std.specs.Io.KnownBytes.{Appends}
use Rattle.std.specs.Option.{option_copied}
use Rattle.std.proofs.lemmas.Option.{IfSome_then}
use Rattle.std.proofs.lemmas.Result.{err_from_is_err_and}
use Rattle.ioa_compile.specs.Subjects.{of_hosts}
use Rattle.ioa_device.specs.declared.failure.LogErr.{LogErr}
use Rattle.ioa_serving.specs.declared.failure.Failure.{Failure}
use Rattle.ioa_serving.proofs.Refused.{err_so, log_replay_refused}
use Rattle.ioa_serving.proofs.invariant_replay.replay_invariants_text.Goals as goal

pub returns-then-is_object-clause-refused : goal.returns-then-is_object-clause-refused
returns-then-is_object-clause-refused g c = inr (sym c.is_object.ensures ∙ c.if-is_object.true, refl)

pub returns-in_err-composed-clause-refused : goal.returns-in_err-composed-clause-refused
returns-in_err-composed-clause-refused g c =
    let e = err_from_is_err_and c.from_residual.result c.from_residual.ensures.1 in
    let source = sym c.is_object.ensures ∙ c.if-is_object.false in
    err_so c.from_residual.result e.0 _ _ e.1 e.2 (inl (source, inl (source, c.in_err-composed.ensures.refused)))

pub returns-in_err-told-clause-refused : goal.returns-in_err-told-clause-refused
returns-in_err-told-clause-refused g c =
    let e = err_from_is_err_and c.from_residual-in_err-told.result c.from_residual-in_err-told.ensures.1 in
    let x = c.in_err-told.field-0.0 in
    let of = c.in_ok-composed.ensures.composes in
    let source = sym c.is_object.ensures ∙ c.if-is_object.false in
    let said = c.in_err-told.ensures in
    err_so c.from_residual-in_err-told.result e.0 _ _ e.1 e.2
    (inl (
      source,
      log_replay_refused c.args.text.now (option_copied c.args.composition) _ _ (of_hosts of.0) x (source, of.1) (λ h. inl (said.devices.io (ap Err h))) (said.refused of.0 of.2),
    ))

pub returns-in_err-send_all-clause-refused : goal.returns-in_err-send_all-clause-refused
returns-in_err-send_all-clause-refused g c =
    let e = err_from_is_err_and c.from_residual-in_err-send_all.result c.from_residual-in_err-send_all.ensures.1 in
    let of = c.in_ok-composed.ensures.composes in
    let source = sym c.is_object.ensures ∙ c.if-is_object.false in
    err_so c.from_residual-in_err-send_all.result e.0 (Failure.List LogErr.Io) _ e.1 (e.2 ∙ ap Failure.List c.in_err-send_all.ensures.io.0)
    (inl (source, (of_hosts of.0, (source, of.1), inr c.in_err-send_all.ensures.io.1)))

pub returns-in_err-send_all-clause-unwritten : goal.returns-in_err-send_all-clause-unwritten
returns-in_err-send_all-clause-unwritten g c =
    let e = err_from_is_err_and c.from_residual-in_err-send_all.result c.from_residual-in_err-send_all.ensures.1 in
    let of = c.in_ok-composed.ensures.composes in
    let source = sym c.is_object.ensures ∙ c.if-is_object.false in
    err_so c.from_residual-in_err-send_all.result e.0 (Failure.List LogErr.Io) _ e.1 (e.2 ∙ ap Failure.List c.in_err-send_all.ensures.io.0)
    (inr (
      of.0,
      (source, of.1),
      IfSome_then (g.R.Read.remaining c.args.input.now) (c.in_ok-told.ensures.finds of.0 of.2)
          (λ xs r.
          let begun = subst (λ t. (k : ℕ) × Appends (g.W.Write.contents c.args.output.now) (g.W.Write.contents c.send_all.new.output) (take k t)) (c.as_bytes.ensures.value ∙ r.3)
          c.in_err-send_all.ensures.begun in
          (r.0, r.1, begun)),
    ))

pub returns-clause-replays : goal.returns-clause-replays
returns-clause-replays g c =
    let of = c.in_ok-composed.ensures.composes in
    let source = sym c.is_object.ensures ∙ c.if-is_object.false in
    IfSome_then (g.R.Read.remaining c.args.input.now) (c.in_ok-told.ensures.finds of.0 of.2)
    (λ xs r.
    let all = subst (λ t. Appends (g.W.Write.contents c.args.output.now) (g.W.Write.contents c.send_all.new.output) t) (c.as_bytes.ensures.value ∙ r.3) c.in_ok-send_all.ensures.ok in
    (of.0, (source, of.1), (r.0, r.1, r.2, all)))
