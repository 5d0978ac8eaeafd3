use Rattle.ioa_serving.proofs.Declared as declared
use Rattle.ioa_serving.proofs.laws.one_composition.Goals as goal

pub returns : goal.returns
returns c = declared.one_composition
