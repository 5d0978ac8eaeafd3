use Rattle.std.proofs.Common.{◌≡◌, ◌||◌, not, [], map, drop}
use Rattle.std.specs.List.{list_all}
use Rattle.ioa_tree.specs.View.{automaton_of, entry_of, transition_of}
use Rattle.ioa_tree.specs.WellFormed as well_formed
use Rattle.ioa_rules.specs.KnownTypes.{whole, early}
use Rattle.ioa_rules.proofs.transitions.transitions_of_entry_fine.Given as goal

abbrev pub invariant-loop-transition : goal.invariant-loop-transition
invariant-loop-transition l = list_all (λ r. not (well_formed.matches [] [] [] (automaton_of l.automaton) (entry_of l.entry) r) || well_formed.transition_fine (whole l.known) (early l.known) l.globals (automaton_of l.automaton) (entry_of l.entry) r) (map transition_of (drop l.transition-index l.automaton.transitions.items)) ≡ list_all (λ r. not (well_formed.matches [] [] [] (automaton_of l.automaton) (entry_of l.entry) r) || well_formed.transition_fine (whole l.known) (early l.known) l.globals (automaton_of l.automaton) (entry_of l.entry) r) (map transition_of l.automaton.transitions.items)
