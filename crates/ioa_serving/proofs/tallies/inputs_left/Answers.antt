use Rattle.std.proofs.Common.{Some, ◌∙◌, ap, map, sym}
use Rattle.std.proofs.lemmas.Option.{slice_get-get_or, slice_get_past}
use Rattle.ioa_value.specs.Actions.{act_of}
use Rattle.ioa_serving.proofs.TalliedLines.{behind_report, without_report}
use Rattle.ioa_serving.proofs.tallies.inputs_left.Goals as goal

pub returns-in-Some : goal.returns-in-Some
returns-in-Some c =
    let rs = c.args.reports.now in
    behind_report act_of c.args.script.now c.args.environment rs c.in-Some.report.now c.min.result
    (slice_get-get_or rs c.args.environment c.in-Some.report.now c.in-Some.ensures.lookup.3.0 ∙ ap Some (sym c.in-Some.ensures.lookup.1)) c.min.ensures

pub returns-in-None : goal.returns-in-None
returns-in-None c = without_report (map act_of c.args.script.now) c.args.environment c.args.reports.now (slice_get_past c.args.reports.now c.args.environment c.in-None.ensures.lookup.3)
