use Rattle.ioa_watch.proofs.AsSubjects.{hears_as_program}
use Rattle.ioa_watch.proofs.laws.streams_are_the_subjects.Goals as goal

pub returns : goal.returns
returns _ = λ p s acts runs. hears_as_program p s acts runs
