use Rattle.std.proofs.Common.{length}
use Rattle.ioa_coverage.proofs.origin.+statements_for.Given as goal

abbrev pub decreases-statements_for : goal.decreases-statements_for
decreases-statements_for l = length l.transitions.now
