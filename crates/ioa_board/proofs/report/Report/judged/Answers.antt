use Rattle.std.proofs.Common.{rules}
use Rattle.ioa_board.proofs.report.Report.judged.Goals as goal

pub returns-in-Stale : goal.returns-in-Stale
returns-in-Stale c = search rules

pub returns-in-Faulted : goal.returns-in-Faulted
returns-in-Faulted c = search rules
