use Rattle.std.proofs.Common.{◌-◌, length}
use Rattle.ioa_system.proofs.steps.make_room.Given as goal

abbrev pub decreases-loop-alloc : goal.decreases-loop-alloc
decreases-loop-alloc l = l.count - length l.drafts.items
