use Rattle.ioa_run.proofs.Playing.{plays_go_on}
use Rattle.ioa_run.proofs.Resumed.{logs_resume, nothing_resumes}
use Rattle.ioa_board.proofs.Since.{count_since}
use Rattle.ioa_run.proofs.Subjects.{same_resumption}
use Rattle.ioa_run.proofs.Unresumed.{logs_are_refused}
use Rattle.ioa_run.proofs.laws.logs_resume.Goals as goal

pub returns-clause-resumed : goal.returns-clause-resumed
returns-clause-resumed _ = logs_resume

pub returns-clause-refused : goal.returns-clause-refused
returns-clause-refused _ = logs_are_refused

pub returns-clause-nothing : goal.returns-clause-nothing
returns-clause-nothing _ = nothing_resumes

pub returns-clause-subjects : goal.returns-clause-subjects
returns-clause-subjects _ = same_resumption

pub returns-clause-plays : goal.returns-clause-plays
returns-clause-plays _ = plays_go_on

pub returns-clause-counted : goal.returns-clause-counted
returns-clause-counted _ = count_since
