use Rattle.std.proofs.Common.{◌≡◌, ◌+◌, [], map, filter, drop, length, cond}
use Rattle.ioa_tree.specs.View.{automaton_of, entry_of, transition_of}
use Rattle.ioa_tree.specs.WellFormed as well_formed
use Rattle.ioa_rules.proofs.transitions.one_transition.Given as goal

abbrev pub invariant-loop-transition : goal.invariant-loop-transition
invariant-loop-transition l = cond l.found 1 0 + length (filter (well_formed.matches [] [] [] (automaton_of l.automaton) (entry_of l.entry)) (map transition_of (drop l.transition-index l.automaton.transitions.items))) ≡ length (filter (well_formed.matches [] [] [] (automaton_of l.automaton) (entry_of l.entry)) (map transition_of l.automaton.transitions.items))
