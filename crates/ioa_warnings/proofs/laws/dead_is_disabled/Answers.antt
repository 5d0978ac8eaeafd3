use Rattle.ioa_warnings.proofs.Disabled as disabled
use Rattle.ioa_warnings.proofs.laws.dead_is_disabled.Goals as goal

pub returns : goal.returns
returns c = disabled.dead_is_disabled
