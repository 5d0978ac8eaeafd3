use Rattle.std.proofs.Common.{◌∙◌}
use Rattle.ioa_device.specs.Devices.{change}
use Rattle.ioa_serving.specs.Serving.{wants_of}
use Rattle.ioac.proofs.Wants.{reported_with}
use Rattle.ioac.proofs.telling.reported.Goals as goal

pub returns-in-Ok-clause-reports : goal.returns-in-Ok-clause-reports
returns-in-Ok-clause-reports g c =
    let errors = change g.E.Write.contents g.E.Device.failure_count c.args.errors.now c.put_with_wants.new.errors in
    reported_with c.args.failure.now c.as_str.result.now (wants_of c.args.ran.now) c.status.result errors _ (c.as_str.ensures.value ∙ c.in-Ok.ensures) c.status.ensures c.put_with_wants.ensures.puts
