use Rattle.std.proofs.Common.{ap}
use Rattle.ioa_device.specs.Devices.{change}
use Rattle.ioa_serving.specs.Serving.{wants_of}
use Rattle.ioac.proofs.Answered.{both_err, both_ok}
use Rattle.ioac.proofs.Reported.{no_device_failed_in}
use Rattle.ioac.proofs.command.serve_and_tell.Goals as goal

pub returns-clause-tells : goal.returns-clause-tells
returns-clause-tells g c = (
  wants_of c.serve-served.result.1,
  λ other. ap wants_of (c.serve-served.ensures.silent other),
  both_ok _ _ c.serve-served.result.0 c.serve-served.ensures.served c.settle-status.ensures.finishes,
  both_err _ _ c.serve-served.result.0 c.serve-served.ensures.refused c.settle-status.ensures.reports,
)

pub returns-clause-devices : goal.returns-clause-devices
returns-clause-devices g c =
    let errors = change g.E.Write.contents g.E.Device.failure_count c.args.errors.now c.settle-status.new.errors in
    let served = c.serve-served.ensures.devices in
    let told = c.settle-status.ensures.devices in
    record {
      passed = λ whole.
          let so = served.passed (no_device_failed_in c.serve-served.result.0 _ errors _ c.settle-status.ensures.reports whole) in
          (so.0, so.1, told.passed whole);
      once = (served.once.0, served.once.1, told.once);
    }
