use Rattle.ioac.specs.Remarks.{TellsDone}
use Rattle.ioac.proofs.ToldLogs.{none_heard}
use Rattle.ioac.proofs.remarks.ended.put_done_run.Goals as goal

pub returns-in-None : goal.returns-in-None
returns-in-None c = none_heard c.args.told.now c.types.result.now c.in_ok-log.field-0 (TellsDone c.args.told.now) _ c.types.ensures.value c.in-None.is c.in_ok-log.ensures.none
