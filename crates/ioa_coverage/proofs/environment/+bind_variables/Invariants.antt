use Rattle.std.proofs.Common.{length}
use Rattle.ioa_coverage.proofs.environment.+bind_variables.Given as goal

abbrev pub decreases-bind_variables : goal.decreases-bind_variables
decreases-bind_variables l = length l.variables.now
