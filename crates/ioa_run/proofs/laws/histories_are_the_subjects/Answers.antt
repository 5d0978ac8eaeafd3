use Rattle.ioa_run.proofs.Subjects.{program_history, same_outcome, subject_history}
use Rattle.ioa_run.proofs.laws.histories_are_the_subjects.Goals as goal

pub returns-clause-history : goal.returns-clause-history
returns-clause-history _ = subject_history

pub returns-clause-back : goal.returns-clause-back
returns-clause-back _ = program_history

pub returns-clause-outcome : goal.returns-clause-outcome
returns-clause-outcome _ = same_outcome
