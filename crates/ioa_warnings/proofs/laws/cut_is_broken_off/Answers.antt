use Rattle.ioa_warnings.proofs.BrokenOff as broken_off
use Rattle.ioa_warnings.proofs.laws.cut_is_broken_off.Goals as goal

pub returns : goal.returns
returns c = broken_off.cut_is_broken_off
