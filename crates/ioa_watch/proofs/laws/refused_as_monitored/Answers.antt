use Rattle.ioa_watch.proofs.AsMonitors.{refuses_as_monitor}
use Rattle.ioa_watch.proofs.laws.refused_as_monitored.Goals as goal

pub returns : goal.returns
returns _ = λ p acts. refuses_as_monitor p acts
