use Rattle.std.proofs.Common.{string_bytes, inl, subst}
use Rattle.ioa_system.specs.Logs.{actions_of, log_end, logged}
use Rattle.ioa_account.specs.Remarks.{TellsDifference}
use Rattle.ioa_account.proofs.Remarking.{acts_of_log, on_ok}
use Rattle.ioac.proofs.ToldLogs.{begun_so, none_begun}
use Rattle.ioac.proofs.remarks.ended.put_log_difference.Goals as goal

pub returns-in_ok-actions-in-Some : goal.returns-in_ok-actions-in-Some
returns-in_ok-actions-in-Some c =
    let t = c.args.told.now in
    let log = c.in-Some.log in
    on_ok c.put_difference.result
    (λ tells. inl (
      logged log,
      begun_so t c.args.line c.types.result.now c.in_ok-log.field-0 log c.types.ensures.value c.in-Some.is c.in_ok-log.ensures.begun,
      subst (λ acts. TellsDifference c.args.told.now acts (log_end log.end) (string_bytes c.args.text.now) (string_bytes c.put_difference.new.text))
          (acts_of_log log c.deref.result.now c.in_ok-actions-in-Some.actions.items c.deref.ensures.value c.in_ok-actions-in-Some.ensures) tells,
    ))
    c.put_difference.ensures

pub returns-in-None : goal.returns-in-None
returns-in-None c = none_begun c.args.told.now c.args.line c.types.result.now c.in_ok-log.field-0 (λ log. TellsDifference c.args.told.now (actions_of log) log.ending) _ c.types.ensures.value c.in-None.is c.in_ok-log.ensures.none
