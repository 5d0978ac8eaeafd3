use Rattle.ioa_tree.proofs.Pairs.{AlikeBelow}
use Rattle.ioa_tree.proofs.sameness.same_list.Given as goal

abbrev pub invariant-loop-i : goal.invariant-loop-i
invariant-loop-i g l = AlikeBelow g.T.Same.tree l.these l.those l.i
