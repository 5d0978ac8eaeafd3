use Rattle.ioa_coverage.proofs.Hosting.{coverage_is_the_hosts}
use Rattle.ioa_coverage.proofs.laws.coverage_is_the_hosts.Goals as goal

pub returns : goal.returns
returns _ = coverage_is_the_hosts
