use Rattle.std.proofs.Common.{[], Some, inl, inr, subst, sym, arith, ◌∙◌}
use Rattle.ioa_device.specs.Devices.{change}
use Rattle.ioa_serving.specs.declared.failure.Failure.{Failure}
use Rattle.ioa_serving.specs.Worlds.{files, world}
use Rattle.ioa_serving.proofs.Kept.{keeps_same}
use Rattle.ioac.specs.Commands.{IsAnsweredAs, IsTakingErr}
use Rattle.ioac.proofs.Reported.{reported_status}
use Rattle.ioac.proofs.Taken.{held, taking, untaken_status}
use Rattle.ioac.proofs.command.answer_cut.Goals as goal

pub returns-in-Ok-clause-answers : goal.returns-in-Ok-clause-answers
returns-in-Ok-clause-answers g c =
    let output = change g.W.Write.contents g.W.Device.failure_count c.args.output.now c.answer_as.new.output in
    let errors = change g.E.Write.contents g.E.Device.failure_count c.args.errors.now c.answer_as.new.errors in
    let store = files g.F.Store.holds g.F.Store.lacks g.F.Store.begins g.F.Store.bars g.F.Store.saves c.args.store.now c.answer_as.new.store in
    let text = c.in-Ok.text.items in
    let same = held text c.as_slice.result c.new-taken.result.inner c.answer_as.new.input.inner (c.new-taken.ensures.inner ∙ c.new.ensures) c.as_slice.ensures.value c.answer_as.ensures.devices.once.0 in
    inl (
      text,
      c.in-Ok.ensures.ok,
      (
        Some c.answer_as.new.input.inner.rest.now,
        subst (λ input. IsAnsweredAs c.args.explains (world store input output errors) c.args.asked.now c.answer_as.result) same c.answer_as.ensures.answers,
      ),
    )

pub returns-in-Ok-clause-devices : goal.returns-in-Ok-clause-devices
returns-in-Ok-clause-devices g c =
    let answered = c.answer_as.ensures.devices in
    record {
      passed = λ whole. let so = answered.passed whole in (c.in-Ok.ensures.devices.passed (λ e. absurd (cc)), so.1, so.2);
      once = (c.in-Ok.ensures.devices.once, answered.once.1, answered.once.2);
    }

pub returns-in-Err-clause-answers : goal.returns-in-Err-clause-answers
returns-in-Err-clause-answers g c =
    inr (
      keeps_same (g.W.Write.contents c.args.output.now),
      (c.in-Err.error, taking _ c.in-Err.error c.in-Err.ensures.only c.in-Err.ensures.devices.io, c.reported.ensures.reports),
    )

pub returns-in-Err-clause-devices : goal.returns-in-Err-clause-devices
returns-in-Err-clause-devices g c =
    let failure : Failure = Failure.List c.in-Err.error in
    let errors = change g.E.Write.contents g.E.Device.failure_count c.args.errors.now c.reported.new.errors in
    record {
      passed = λ whole. absurd (whole (
          reported_status failure [] errors c.reported.result c.reported.ensures.reports whole
          ∙ untaken_status _ c.in-Err.error (taking _ c.in-Err.error c.in-Err.ensures.only c.in-Err.ensures.devices.io)
          ));
      once = (c.in-Err.ensures.devices.once, omega arith, c.reported.ensures.devices.once);
    }
