use Rattle.std.proofs.Common.{All, take}
use Rattle.ioa_system.specs.Logs.{log_end}
use Rattle.ioa_board.specs.Outcomes.{HasEnded}
use Rattle.ioa_board.proofs.report.have_ended.Given as goal

abbrev pub invariant-loop-report : goal.invariant-loop-report
invariant-loop-report l = All (HasEnded l.turns (log_end l.end)) (take l.report-index l.reports)
