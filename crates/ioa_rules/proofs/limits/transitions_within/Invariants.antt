use Rattle.std.proofs.Common.{◌≡◌, map, drop}
use Rattle.std.specs.List.{list_all}
use Rattle.ioa_value.specs.declared.limits.TheConstants.{LIMITS}
use Rattle.ioa_tree.specs.View.{transition_of}
use Rattle.ioa_tree.specs.WellFormed as well_formed
use Rattle.ioa_rules.proofs.limits.transitions_within.Given as goal

abbrev pub invariant-loop-transition : goal.invariant-loop-transition
invariant-loop-transition l = list_all (well_formed.transition_within LIMITS) (map transition_of (drop l.transition-index l.transitions)) ≡ list_all (well_formed.transition_within LIMITS) (map transition_of l.transitions)
