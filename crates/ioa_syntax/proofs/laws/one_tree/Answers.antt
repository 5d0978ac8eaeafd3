use Rattle.ioa_declarations.proofs.Whole.{one_source}
use Rattle.ioa_syntax.proofs.laws.one_tree.Goals as goal

pub returns : goal.returns
returns c = one_source
