use Rattle.std.proofs.Common.{ap, ◌∙◌}
use Rattle.ioa_serving.specs.Statuses.{number_of}
use Rattle.ioac.proofs.command.command.Goals as goal

pub returns-clause-devices : goal.returns-clause-devices
returns-clause-devices g c = record {
  passed = λ n. c.perform.ensures.devices.passed (λ is. n (c.number.ensures ∙ ap number_of is));
  once = c.perform.ensures.devices.once;
}
