use Rattle.std.proofs.Common.{◌≡◌, [], map, drop}
use Rattle.std.specs.List.{list_all, list_any}
use Rattle.ioa_tree.specs.View.{automaton_of, transition_of}
use Rattle.ioa_tree.specs.WellFormed as well_formed
use Rattle.ioa_rules.proofs.transitions.each_has_entry.Given as goal

abbrev pub invariant-loop-transition : goal.invariant-loop-transition
invariant-loop-transition l = list_all (λ r. list_any (λ e. well_formed.matches [] [] [] (automaton_of l.automaton) e r) (automaton_of l.automaton).entries) (map transition_of (drop l.transition-index l.automaton.transitions.items)) ≡ list_all (λ r. list_any (λ e. well_formed.matches [] [] [] (automaton_of l.automaton) e r) (automaton_of l.automaton).entries) (map transition_of l.automaton.transitions.items)
