use Rattle.std.proofs.Common.{◌<◌, rules, length, map}
use Rattle.std.proofs.lemmas.Option.{slice_get-get_or}
use Rattle.ioa_compile.specs.Programs.{MemberCode}
use Rattle.ioa_serving.proofs.Traced.{reports_step}
use Rattle.ioa_serving.proofs.reports.reports_text.Goals as goal

pub loop-i-preserved : goal.loop-i-preserved
loop-i-preserved c =
    let rs = c.args.reports.now in
    let lt : c.loop-i.i < length rs = search rules in
    reports_step (map (λ (x : MemberCode). x.name) c.args.program.now.members) rs c.loop-i.i _ _ _ _ (slice_get-get_or rs c.loop-i.i _ lt) c.worker_name.ensures c.loop-i.invariant
    c.in_ok-push_report.ensures
