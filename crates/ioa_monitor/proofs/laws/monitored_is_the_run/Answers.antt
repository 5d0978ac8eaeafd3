use Rattle.ioa_monitor.proofs.Accepting.{accepts_runs, tells_runs}
use Rattle.ioa_monitor.proofs.laws.monitored_is_the_run.Goals as goal

pub returns-clause-accepts : goal.returns-clause-accepts
returns-clause-accepts _ = λ s ps ss. accepts_runs ps ss

pub returns-clause-tells : goal.returns-clause-tells
returns-clause-tells _ = λ s ps ss. tells_runs ps ss
