use Rattle.ioa_run.proofs.Scheduling.{copy_answers}
use Rattle.ioa_run.proofs.Subjects.{same_copy}
use Rattle.ioa_run.proofs.laws.copies_answer.Goals as goal

pub returns-clause-program : goal.returns-clause-program
returns-clause-program _ = copy_answers

pub returns-clause-subject : goal.returns-clause-subject
returns-clause-subject _ = same_copy
