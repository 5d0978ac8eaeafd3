use Rattle.ioa_compile.proofs.HostEntries.{entries_are_the_hosts}
use Rattle.ioa_compile.proofs.laws.entries_are_the_hosts.Goals as goal

pub returns : goal.returns
returns c = entries_are_the_hosts
