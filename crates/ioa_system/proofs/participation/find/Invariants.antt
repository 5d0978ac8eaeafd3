use Rattle.ioa_value.specs.Actions.{act_of}
use Rattle.ioa_system.proofs.Taking.{Finds, OwnedSo}
use Rattle.ioa_system.proofs.participation.find.Given as goal

abbrev pub invariant-loop-k : goal.invariant-loop-k
invariant-loop-k l = Finds l.program (act_of l.action) l.participants.items l.k × OwnedSo l.program (act_of l.action) l.owner l.k
