use Rattle.std.proofs.Common.{All, subst, refl, arith}
use Rattle.std.proofs.lemmas.List.{take_all}
use Rattle.std.proofs.lemmas.List.Elements.{All-more}
use Rattle.ioa_system.specs.Logs.{log_end}
use Rattle.ioa_board.specs.Outcomes.{HasEnded}
use Rattle.ioa_board.proofs.report.have_ended.Goals as goal

pub loop-report-preserved : goal.loop-report-preserved
loop-report-preserved c =
    All-more (HasEnded c.args.turns (log_end c.args.end)) c.args.reports.now c.loop-report.report-index _ c.loop-report-test.true c.loop-report.invariant
    (c.has_ended.ensures.0 c.if-not-has_ended.false)

pub returns : goal.returns
returns c = (
  λ yes. subst (All (HasEnded c.args.turns (log_end c.args.end))) (take_all c.loop-report.report-index c.args.reports.now (omega (arith, c.loop-report-test.false))) c.loop-report.invariant,
  λ all. refl,
)
