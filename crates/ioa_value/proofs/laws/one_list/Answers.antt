use Rattle.ioa_value.specs.Lists.{lines}
use Rattle.ioa_value.proofs.ListOnceLemmas.{lines_once}
use Rattle.ioa_value.proofs.laws.one_list.Goals as goal

pub returns : goal.returns
returns c = λ types text xs ys declared. lines_once types declared (lines text) xs ys
