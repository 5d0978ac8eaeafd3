use Rattle.ioa_system.proofs.Subjects.{same_start, same_step, same_step_from}
use Rattle.ioa_system.proofs.laws.steps_are_the_subjects.Goals as goal

pub returns-clause-start : goal.returns-clause-start
returns-clause-start _ = same_start

pub returns-clause-step : goal.returns-clause-step
returns-clause-step _ = same_step

pub returns-clause-step_from : goal.returns-clause-step_from
returns-clause-step_from _ = same_step_from
