use Rattle.ioa_run.proofs.Subjects.{same_alone, same_turns}
use Rattle.ioa_run.proofs.laws.turns_are_the_subjects.Goals as goal

pub returns-clause-turns : goal.returns-clause-turns
returns-clause-turns _ = same_turns

pub returns-clause-outcome : goal.returns-clause-outcome
returns-clause-outcome _ = same_alone
