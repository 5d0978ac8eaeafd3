use Rattle.ioa_run.proofs.Attempting as law
use Rattle.ioa_run.proofs.laws.attempts_answer.Goals as goal

pub returns : goal.returns
returns c = law.attempts_answer
