use Rattle.std.proofs.Common.{inr}
use Rattle.std.specs.Prelude.{unwrap_or}
use Rattle.ioac.specs.Remarks.{log_of_run}
use Rattle.ioa_causes.proofs.Found.{if_ok}
use Rattle.ioac.proofs.Answered.{if_err}
use Rattle.ioac.proofs.remarks.remarks_or_none.Goals as goal

pub returns-in-Ok-clause-served : goal.returns-in-Ok-clause-served
returns-in-Ok-clause-served g c = if_ok _ _ c.args.served.now (λ s remark. inr (unwrap_or (log_of_run c.args.ran.now) c.match-heard.input.now, remark)) c.in-Ok.ensures.served

pub returns-in-Ok-clause-unserved : goal.returns-in-Ok-clause-unserved
returns-in-Ok-clause-unserved g c = if_err _ _ c.args.served.now (λ e told. inr (c.match-heard.input.now, told)) c.in-Ok.ensures.unserved
