use Rattle.std.proofs.Common.{length}
use Rattle.ioa_coverage.proofs.environment.+bind_formals.Given as goal

abbrev pub decreases-bind_formals : goal.decreases-bind_formals
decreases-bind_formals l = length l.formals.now
