use Rattle.std.proofs.Common.{◌≡◌, ◌==◌, [], map, filter, drop, length}
use Rattle.std.specs.List.{list_all}
use Rattle.ioa_tree.specs.View.{automaton_of, entry_of}
use Rattle.ioa_tree.specs.WellFormed as well_formed
use Rattle.ioa_rules.proofs.transitions.each_has_transition.Given as goal

abbrev pub invariant-loop-entry : goal.invariant-loop-entry
invariant-loop-entry l = list_all (λ e. length (filter (well_formed.matches [] [] [] (automaton_of l.automaton) e) (automaton_of l.automaton).transitions) == 1) (map entry_of (drop l.entry-index l.automaton.entries.items)) ≡ list_all (λ e. length (filter (well_formed.matches [] [] [] (automaton_of l.automaton) e) (automaton_of l.automaton).transitions) == 1) (map entry_of l.automaton.entries.items)
