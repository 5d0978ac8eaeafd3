use Rattle.ioa_run.proofs.Subjects.{hosts_apart, program_schedule, subject_schedule}
use Rattle.ioa_run.proofs.laws.schedules_are_the_subjects.Goals as goal

pub returns-clause-answers : goal.returns-clause-answers
returns-clause-answers _ = subject_schedule

pub returns-clause-back : goal.returns-clause-back
returns-clause-back _ = program_schedule

pub returns-clause-apart : goal.returns-clause-apart
returns-clause-apart _ = hosts_apart
