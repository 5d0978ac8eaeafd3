use Rattle.ioa_crash.proofs.CrashLemmas.{means_crash}
use Rattle.ioa_crash.proofs.laws.rewriting_means_crash.Goals as goal

pub returns : goal.returns
returns c = means_crash
