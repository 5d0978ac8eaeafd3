use Rattle.ioa_tree.proofs.Pairs.{AlikeBelow}
use Rattle.ioa_compile.proofs.same.are_alike.Given as goal

abbrev pub invariant-loop-i : goal.invariant-loop-i
invariant-loop-i g l = AlikeBelow g.T.Alike.part l.these l.those l.i
