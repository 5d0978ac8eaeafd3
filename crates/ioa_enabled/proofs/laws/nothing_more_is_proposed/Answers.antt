use Rattle.ioa_enabled.proofs.Silence.{nothing_more_is_proposed}
use Rattle.ioa_enabled.proofs.laws.nothing_more_is_proposed.Goals as goal

pub returns : goal.returns
returns _ = nothing_more_is_proposed
