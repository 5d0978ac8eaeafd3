use Rattle.ioa_value.proofs.ListOnceLemmas.{no_bad_line}
use Rattle.ioa_value.proofs.laws.no_bad_line.Goals as goal

pub returns : goal.returns
returns c = no_bad_line
