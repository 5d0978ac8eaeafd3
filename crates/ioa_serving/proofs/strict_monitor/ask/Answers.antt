use Rattle.std.proofs.Common.{List, subst}
use Rattle.std.proofs.lemmas.Option.{IfSome_then}
use Rattle.std.proofs.lemmas.Result.{err_from_is_err_and}
use Rattle.ioa_value.specs.Actions.{Act}
use Rattle.ioa_value.specs.Table.{Table}
use Rattle.ioa_system.specs.Logs.{logged}
use Rattle.ioa_device.specs.declared.failure.LogErr.{LogErr}
use Rattle.ioa_log.specs.LogTexts.{ReadsLog}
use Rattle.ioa_inspect.specs.LogMonitors.{IsNoText}
use Rattle.ioa_serving.specs.Logs.{performed_in}
use Rattle.ioa_serving.proofs.Strictly.{always, unread}
use Rattle.ioa_serving.proofs.strict_monitor.ask.Goals as goal

pub returns-in_err-log-clause-refused : goal.returns-in_err-log-clause-refused
returns-in_err-log-clause-refused g c =
    let same = err_from_is_err_and c.from_residual.result c.from_residual.ensures.1 in
    let said = c.in_err-log.ensures in
    let x : LogErr = c.in_err-log.field-0.0 in
    rw (same.1, same.2) (IfSome_then (g.R.Read.remaining c.args.input.now)
    (unread c.types.result.now (g.R.Read.remaining c.args.input.now) x said.only said.not_json said.bad said.after_end said.no_end)
    (λ xs k. subst (λ (ts : Table). IsNoText ts xs x) c.types.ensures.value k))

pub returns-in_err-watcher-clause-refused : goal.returns-in_err-watcher-clause-refused
returns-in_err-watcher-clause-refused g c =
    let same = err_from_is_err_and c.from_residual-in_err-watcher.result c.from_residual-in_err-watcher.ensures.1 in
    rw (same.1, same.2) (always (g.R.Read.remaining c.args.input.now))

pub returns-clause-answers : goal.returns-clause-answers
returns-clause-answers g c =
    let log = logged c.in_ok-log.log in
    let p = c.args.program.now in
    let acts : List Act = performed_in log in
    IfSome_then (g.R.Read.remaining c.args.input.now) c.in_ok-log.ensures.ok
    (λ xs reads. (log, subst (λ (ts : Table). ReadsLog ts xs log) c.types.ensures.value reads, c.verdict_of.ensures p acts c.in_ok-watcher.ensures))
