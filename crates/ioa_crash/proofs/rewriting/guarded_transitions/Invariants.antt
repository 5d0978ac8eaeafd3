use Rattle.std.proofs.Common.{◌≡◌, map, take}
use Rattle.ioa_tree.specs.View.{transition_of}
use Rattle.ioa_crash.specs.Rewriting as spec
use Rattle.ioa_crash.proofs.rewriting.guarded_transitions.Given as goal

abbrev pub invariant-loop-transition : goal.invariant-loop-transition
invariant-loop-transition l = map transition_of l.out.items ≡ map spec.guarded (map transition_of (take l.transition-index l.transitions))
