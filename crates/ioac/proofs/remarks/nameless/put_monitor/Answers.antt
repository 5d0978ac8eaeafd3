use Rattle.std.proofs.Common.{Some, None, refl, subst}
use Rattle.std.specs.Option.{option_copied}
use Rattle.ioac.specs.Remarks.{IsProgramOf}
use Rattle.ioa_account.proofs.Remarking.{on_ok}
use Rattle.ioac.proofs.remarks.nameless.put_monitor.Goals as goal

pub returns-in_default : goal.returns-in_default
returns-in_default c =
    (None, subst (IsProgramOf c.args.object.now (option_copied c.args.name)) c.in_default.is c.in_ok-program.ensures, refl)

pub returns : goal.returns
returns c =
    on_ok c.put_monitored.result
    (λ tells. (Some c.in-Some.program, subst (IsProgramOf c.args.object.now (option_copied c.args.name)) c.in-Some.is c.in_ok-program.ensures, tells))
    c.put_monitored.ensures
