use Rattle.std.proofs.Common.{length}
use Rattle.ioa_compose.proofs.scope.+found.Given as goal

abbrev pub decreases-found : goal.decreases-found
decreases-found g l = length l.items.now
