use Rattle.std.proofs.Common.{◌≡◌, ℕ, List, ap, arith, inl, inr, refl, subst, sym, string_bytes, ◌∙◌}
use Rattle.ioa_device.specs.Devices.{Passed, change, onward, seen, until}
use Rattle.ioa_serving.specs.declared.failure.Failure.{Failure}
use Rattle.ioa_serving.specs.declared.served.Served.{Served}
use Rattle.ioac.specs.Commands.{IsFollowed, IsServedRemark, IsUnservedRemark}
use Rattle.ioac.specs.Telling.{IsPut}
use Rattle.ioa_causes.proofs.Found.{if_ok}
use Rattle.ioac.proofs.Answered.{any_err, any_ok, followed, if_err, told_through}
use Rattle.ioac.proofs.command.answer_and_explain.Goals as goal

pub returns-then-failures-clause-answers : goal.returns-then-failures-clause-answers
returns-then-failures-clause-answers g c =
    let store = c.serve_and_tell-served.new.store in
    let errors = change g.E.Write.contents g.E.Device.failure_count c.args.errors.now c.serve_and_tell-served.new.errors in
    let answered = c.serve_and_tell-served.result.2 in
    let served = IsServedRemark (g.F.Store.holds store) (g.F.Store.lacks store) c.args.asked.now in
    let unserved = IsUnservedRemark (g.F.Store.holds store) (g.F.Store.lacks store) c.args.asked.now in
    let ends = λ (remarks : List ℕ → Type 0). IsFollowed remarks answered errors (onward errors errors.after) answered in
    let silent = λ (same : Passed errors). c.if-failures.true (c.failures.ensures ∙ same ∙ sym c.failures-failures.ensures) in
    let tells = c.serve_and_tell-served.ensures.tells in (
      errors.after,
      answered,
      omega arith,
      tells.0,
      tells.1,
      followed c.serve_and_tell-served.result.0 _ _ _ _ (λ done. ends (served done)) (λ e. ends (unserved e)) (rw (sym c.keep_heard.ensures) tells.2)
          (rw (sym c.keep_heard.ensures) tells.3) (any_ok (λ (s : Served). ends (served s.status)) _ (λ s. inr (silent, refl, refl)))
          (any_err (λ (e : Failure). ends (unserved e)) _ (λ e. inr (silent, refl, refl))),
    )

pub returns-clause-answers : goal.returns-clause-answers
returns-clause-answers g c =
    let store = c.serve_and_tell-served.new.store in
    let errors = change g.E.Write.contents g.E.Device.failure_count c.args.errors.now c.put.new.errors in
    let between = seen g.E.Write.contents g.E.Device.failure_count c.serve_and_tell-served.new.errors in
    let answered = c.serve_and_tell-served.result.2 in
    let text = string_bytes c.remarks_or_none-text.result in
    let served = IsServedRemark (g.F.Store.holds store) (g.F.Store.lacks store) c.args.asked.now in
    let unserved = IsUnservedRemark (g.F.Store.holds store) (g.F.Store.lacks store) c.args.asked.now in
    let goes_on = λ (remarks : List ℕ → Type 0). IsFollowed remarks answered (until errors between) (onward errors between) c.put.result in
    let passed : Passed (until errors between) = sym c.failures.ensures ∙ c.if-failures.false ∙ c.failures-failures.ensures in
    let puts : IsPut text answered (onward errors between) c.put.result = subst (λ t. IsPut t answered (onward errors between) c.put.result) c.as_str.ensures.value c.put.ensures.puts in
    let tells = c.serve_and_tell-served.ensures.tells in (
      between,
      answered,
      c.put.ensures.counts,
      tells.0,
      tells.1,
      followed c.serve_and_tell-served.result.0 _ _ _ _ (λ done. goes_on (served done)) (λ e. goes_on (unserved e)) (rw (sym c.keep_heard.ensures) tells.2)
          (rw (sym c.keep_heard.ensures) tells.3)
          (if_ok (λ (s : Served). served s.status text) (λ (s : Served). goes_on (served s.status)) _ (λ s says. inl (passed, (text, says, puts))) c.remarks_or_none-text.ensures.served)
          (if_err (λ (e : Failure). unserved e text) (λ (e : Failure). goes_on (unserved e)) _ (λ e says. inl (passed, (text, says, puts))) c.remarks_or_none-text.ensures.unserved),
    )

pub returns-then-failures-clause-devices : goal.returns-then-failures-clause-devices
returns-then-failures-clause-devices g c =
    let served = c.serve_and_tell-served.ensures.devices in
    let heard = ap g.R.Device.failure_count c.keep_heard.ensures in
    record {
      passed = λ whole. let so = served.passed whole in (so.0 ∙ heard, so.1, so.2);
      once = (omega (arith, served.once.0, heard), served.once.1, served.once.2);
    }

pub returns-clause-devices : goal.returns-clause-devices
returns-clause-devices g c =
    let more = change g.E.Write.contents g.E.Device.failure_count c.serve_and_tell-served.new.errors c.put.new.errors in
    let served = c.serve_and_tell-served.ensures.devices in
    let heard = ap g.R.Device.failure_count c.keep_heard.ensures in
    let told : g.E.Device.failure_count c.serve_and_tell-served.new.errors ≡ g.E.Device.failure_count c.args.errors.now = sym c.failures.ensures ∙ c.if-failures.false ∙ c.failures-failures.ensures in
    record {
      passed = λ whole.
          let so = served.passed (told_through _ _ more _ c.put.ensures.puts whole) in
          (so.0 ∙ heard, so.1, c.put.ensures.devices.passed whole ∙ so.2);
      once = (omega (arith, served.once.0, heard), served.once.1, omega (arith, c.put.ensures.devices.once, told));
    }

pub returns-clause-unread : goal.returns-clause-unread
returns-clause-unread g c = λ none. ap (λ h. h.inner) (c.serve_and_tell-served.ensures.unread none) ∙ c.keep_heard.ensures

pub returns-then-failures-clause-unread : goal.returns-then-failures-clause-unread
returns-then-failures-clause-unread g c = λ none. ap (λ h. h.inner) (c.serve_and_tell-served.ensures.unread none) ∙ c.keep_heard.ensures
