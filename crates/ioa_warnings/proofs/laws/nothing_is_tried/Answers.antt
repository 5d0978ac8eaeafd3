use Rattle.ioa_warnings.proofs.Disabled as disabled
use Rattle.ioa_warnings.proofs.laws.nothing_is_tried.Goals as goal

pub returns : goal.returns
returns c = disabled.nothing_is_tried
