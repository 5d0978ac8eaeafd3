use Rattle.ioa_tree.specs.View.{expr_of}
use Rattle.ioa_tree.proofs.Pairs.{AlikeBelow}
use Rattle.ioa_tree.proofs.sameness.+same_expression.Given as goal

abbrev pub invariant-same_expressions-loop-i : goal.invariant-same_expressions-loop-i
invariant-same_expressions-loop-i l = AlikeBelow expr_of l.these l.those l.i
