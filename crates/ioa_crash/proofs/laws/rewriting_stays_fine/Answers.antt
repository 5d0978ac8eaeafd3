use Rattle.ioa_crash.proofs.StaysLemmas.{stays_fine}
use Rattle.ioa_crash.proofs.laws.rewriting_stays_fine.Goals as goal

pub returns : goal.returns
returns c = stays_fine
