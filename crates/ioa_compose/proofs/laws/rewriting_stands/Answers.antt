use Rattle.ioa_compose.proofs.StandLemmas.{rewriting_stands}
use Rattle.ioa_compose.proofs.laws.rewriting_stands.Goals as goal

pub returns : goal.returns
returns c = rewriting_stands
