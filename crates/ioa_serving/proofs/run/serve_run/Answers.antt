use Rattle.std.proofs.Common.{◌∙◌, ap}
use Rattle.std.proofs.lemmas.Result.{err_from_is_err_and}
use Rattle.ioa_serving.specs.Statuses.{ending_status}
use Rattle.ioa_serving.proofs.RunServed.{cut_by}
use Rattle.ioa_serving.proofs.Refused.{err_so}
use Rattle.ioa_serving.proofs.run.serve_run.Goals as goal

pub returns-in_err-write_run-clause-cut : goal.returns-in_err-write_run-clause-cut
returns-in_err-write_run-clause-cut g c =
    let e = err_from_is_err_and c.from_residual-in_err-write_run.result c.from_residual-in_err-write_run.ensures.1 in
    err_so c.from_residual-in_err-write_run.result e.0 _ _ e.1 e.2
    (cut_by _ _ _ _ c.in_err-write_run.field-0.0 c.in_err-write_run.ensures.only c.in_err-write_run.ensures.io c.in_err-write_run.ensures.begun c.in_err-write_run.ensures.memory)

pub returns-clause-served : goal.returns-clause-served
returns-clause-served g c = (c.in_ok-write_run.ensures.ok, c.in_ok-reports.ensures, c.status_of.ensures ∙ ap ending_status c.end.ensures)
