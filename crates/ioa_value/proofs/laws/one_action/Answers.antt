use Rattle.ioa_value.proofs.OnceLemmas.{reads_once}
use Rattle.ioa_value.proofs.laws.one_action.Goals as goal

pub returns : goal.returns
returns c = λ types text a b declared. reads_once types declared text a b
