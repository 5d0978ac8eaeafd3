use Rattle.ioa_serving.proofs.Wanting.{silence_means}
use Rattle.ioa_serving.proofs.laws.silent_runs_lack_no_memory.Goals as goal

pub returns : goal.returns
returns c = silence_means
