use Rattle.ioa_enabled.proofs.Hosting.{offers_are_the_hosts}
use Rattle.ioa_enabled.proofs.laws.offers_are_the_hosts.Goals as goal

pub returns : goal.returns
returns _ = offers_are_the_hosts
