use Rattle.std.proofs.Common.{◌≡◌, ◌||◌, not, [], map, drop}
use Rattle.std.specs.List.{list_all}
use Rattle.ioa_tree.specs.View.{automaton_of, entry_of}
use Rattle.ioa_tree.specs.WellFormed as well_formed
use Rattle.ioa_rules.specs.KnownTypes.{whole, early}
use Rattle.ioa_rules.proofs.transitions.transitions_fine.Given as goal

abbrev pub invariant-loop-entry : goal.invariant-loop-entry
invariant-loop-entry l = list_all (λ e. list_all (λ r. not (well_formed.matches [] [] [] (automaton_of l.automaton) e r) || well_formed.transition_fine (whole l.known) (early l.known) l.globals (automaton_of l.automaton) e r) (automaton_of l.automaton).transitions) (map entry_of (drop l.entry-index l.automaton.entries.items)) ≡ list_all (λ e. list_all (λ r. not (well_formed.matches [] [] [] (automaton_of l.automaton) e r) || well_formed.transition_fine (whole l.known) (early l.known) l.globals (automaton_of l.automaton) e r) (automaton_of l.automaton).transitions) (map entry_of l.automaton.entries.items)
