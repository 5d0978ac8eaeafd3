use Rattle.ioa_value.proofs.ListOnceLemmas as lemmas
use Rattle.ioa_value.proofs.laws.one_bad_line.Goals as goal

pub returns : goal.returns
returns c = lemmas.one_bad_line
