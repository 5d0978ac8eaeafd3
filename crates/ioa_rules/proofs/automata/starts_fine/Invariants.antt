use Rattle.std.proofs.Common.{◌≡◌, [], map, drop}
use Rattle.std.specs.List.{list_all}
use Rattle.ioa_tree.specs.View.{automaton_of, variable_of}
use Rattle.ioa_tree.specs.WellFormed as well_formed
use Rattle.ioa_rules.specs.KnownTypes.{whole, early}
use Rattle.ioa_rules.proofs.automata.starts_fine.Given as goal

abbrev pub invariant-loop-variable : goal.invariant-loop-variable
invariant-loop-variable l = list_all (well_formed.start_fine (whole l.known) (early l.known) [] (automaton_of l.automaton)) (map variable_of (drop l.variable-index l.automaton.variables.items)) ≡ list_all (well_formed.start_fine (whole l.known) (early l.known) [] (automaton_of l.automaton)) (map variable_of l.automaton.variables.items)
