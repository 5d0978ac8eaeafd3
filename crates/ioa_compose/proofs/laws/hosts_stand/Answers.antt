use Rattle.ioa_compose.proofs.HostLemmas.{hosts_stand}
use Rattle.ioa_compose.proofs.laws.hosts_stand.Goals as goal

pub returns : goal.returns
returns c = hosts_stand
