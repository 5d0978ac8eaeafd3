use Rattle.ioa_tree.specs.View.{stmt_of, arm_of}
use Rattle.ioa_tree.proofs.Pairs.{AlikeBelow}
use Rattle.ioa_tree.proofs.sameness.+same_statement.Given as goal

abbrev pub invariant-same_statements-loop-i : goal.invariant-same_statements-loop-i
invariant-same_statements-loop-i l = AlikeBelow stmt_of l.these l.those l.i

abbrev pub invariant-same_arms-loop-i : goal.invariant-same_arms-loop-i
invariant-same_arms-loop-i l = AlikeBelow arm_of l.these l.those l.i
