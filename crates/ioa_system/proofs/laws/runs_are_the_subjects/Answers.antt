use Rattle.ioa_system.proofs.Subjects.{same_external, same_owner, same_participants, same_run, same_trace}
use Rattle.ioa_system.proofs.laws.runs_are_the_subjects.Goals as goal

pub returns-clause-run : goal.returns-clause-run
returns-clause-run _ = same_run

pub returns-clause-trace : goal.returns-clause-trace
returns-clause-trace _ = same_trace

pub returns-clause-owner : goal.returns-clause-owner
returns-clause-owner _ = same_owner

pub returns-clause-participants : goal.returns-clause-participants
returns-clause-participants _ = same_participants

pub returns-clause-external : goal.returns-clause-external
returns-clause-external _ = same_external
