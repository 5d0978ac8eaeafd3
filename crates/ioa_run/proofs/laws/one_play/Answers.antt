use Rattle.ioa_run.proofs.Once.{plays_once}
use Rattle.ioa_run.proofs.laws.one_play.Goals as goal

pub returns : goal.returns
returns c = λ ps es s t u xs ys h k. plays_once ps es s xs ys t u h k
