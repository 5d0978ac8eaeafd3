use Rattle.ioa_warnings.proofs.Unmentioned as unmentioned
use Rattle.ioa_warnings.proofs.laws.free_is_enabled.Goals as goal

pub returns : goal.returns
returns c = unmentioned.free_is_enabled
