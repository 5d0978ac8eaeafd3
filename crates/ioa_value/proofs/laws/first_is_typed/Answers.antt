use Rattle.ioa_value.proofs.FirstLemmas.{first_of_typed}
use Rattle.ioa_value.proofs.laws.first_is_typed.Goals as goal

pub returns : goal.returns
returns c = λ types ty declared lt. first_of_typed types declared ty lt
