use Rattle.std.proofs.Common.{None}
use Rattle.ioa_value.specs.Actions.{act_of}
use Rattle.ioa_system.proofs.Taking.{OwnedSo}
use Rattle.ioa_system.proofs.participation.owner_site.Given as goal

abbrev pub invariant-loop-k : goal.invariant-loop-k
invariant-loop-k l = OwnedSo l.program (act_of l.action) None l.k
