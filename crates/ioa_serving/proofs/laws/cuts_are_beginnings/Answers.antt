use Rattle.ioa_serving.proofs.CutLaws.{cuts_lists, cuts_logs, keeps_short_logs}
use Rattle.ioa_serving.proofs.laws.cuts_are_beginnings.Goals as goal

pub returns-clause-lists : goal.returns-clause-lists
returns-clause-lists c = cuts_lists

pub returns-clause-logs : goal.returns-clause-logs
returns-clause-logs c = cuts_logs

pub returns-clause-short : goal.returns-clause-short
returns-clause-short c = keeps_short_logs
