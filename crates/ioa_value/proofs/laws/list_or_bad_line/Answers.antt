use Rattle.ioa_value.proofs.WholeLemmas as lemmas
use Rattle.ioa_value.proofs.laws.list_or_bad_line.Goals as goal

pub returns : goal.returns
returns c = λ types text declared. lemmas.list_or_bad_line types declared text
