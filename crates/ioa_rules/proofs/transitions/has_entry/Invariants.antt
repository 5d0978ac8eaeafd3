use Rattle.std.proofs.Common.{◌≡◌, [], map, drop}
use Rattle.std.specs.List.{list_any}
use Rattle.ioa_tree.specs.View.{automaton_of, entry_of, transition_of}
use Rattle.ioa_tree.specs.WellFormed as well_formed
use Rattle.ioa_rules.proofs.transitions.has_entry.Given as goal

abbrev pub invariant-loop-entry : goal.invariant-loop-entry
invariant-loop-entry l = list_any (λ e. well_formed.matches [] [] [] (automaton_of l.automaton) e (transition_of l.transition)) (map entry_of (drop l.entry-index l.automaton.entries.items)) ≡ list_any (λ e. well_formed.matches [] [] [] (automaton_of l.automaton) e (transition_of l.transition)) (map entry_of l.automaton.entries.items)
