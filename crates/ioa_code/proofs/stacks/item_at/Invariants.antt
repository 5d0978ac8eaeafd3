use Rattle.ioa_code.proofs.Items.{LooksIn}
use Rattle.ioa_code.proofs.stacks.item_at.Given as goal

abbrev pub invariant-loop-stack : goal.invariant-loop-stack
invariant-loop-stack l = LooksIn l.stacks l.stack l.at l.d

abbrev pub decreases-loop-stack : goal.decreases-loop-stack
decreases-loop-stack l = l.at
