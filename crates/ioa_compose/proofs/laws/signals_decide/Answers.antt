use Rattle.ioa_compose.proofs.SignalLemmas.{signals_decide}
use Rattle.ioa_compose.proofs.laws.signals_decide.Goals as goal

pub returns : goal.returns
returns c = signals_decide
