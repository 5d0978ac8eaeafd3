use Rattle.ioa_serving.specs.Logs.{performed_in}
use Rattle.ioac.specs.Remarks.{TellsCounted}
use Rattle.ioac.proofs.ToldLogs.{none_heard}
use Rattle.ioac.proofs.remarks.ended.put_monitor.Goals as goal

pub returns-in-None : goal.returns-in-None
returns-in-None c = none_heard c.args.told.now c.types.result.now c.in_ok-log.field-0 (λ log. TellsCounted c.args.told.now (performed_in log)) _ c.types.ensures.value c.in-None.is c.in_ok-log.ensures.none
