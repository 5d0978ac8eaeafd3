use Rattle.std.proofs.Common.{◌++◌, ap, map, string_bytes, subst, sym, ◌∙◌}
use Rattle.ioa_value.specs.Actions.{act_of}
use Rattle.ioa_account.specs.Remarks.{TellsMonitored}
use Rattle.ioa_account.proofs.Remarking.{on_ok}
use Rattle.ioa_serving.specs.LogCounts.{monitor_counts}
use Rattle.ioac.specs.Remarks.{OfHosts}
use Rattle.ioac.proofs.remarks.ended.put_counted.Goals as goal

pub returns : goal.returns
returns c =
    let t = c.args.told.now in
    let acts = map act_of c.args.actions.items in
    let p = c.in_ok-program.program in
    let counts = c.in_ok-put_monitor_counts.ensures ∙ ap (λ xs. string_bytes c.args.text.now ++ monitor_counts p (map act_of xs)) c.deref.ensures.value in
    on_ok c.put_monitored.result
    (λ tells. (p, c.in_ok-program.ensures, subst (λ b. OfHosts t (λ h. TellsMonitored t h acts) b (string_bytes c.put_monitored.new.text)) counts tells))
    c.put_monitored.ensures
