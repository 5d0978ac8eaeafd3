use Rattle.std.proofs.Common.{length}
use Rattle.ioa_coverage.proofs.environment.+bind_parameters.Given as goal

abbrev pub decreases-bind_parameters : goal.decreases-bind_parameters
decreases-bind_parameters l = length l.positions.now
