-- The limits of a source, each by its number, and those of a component of a composition.
use Rattle.std.proofs.Common.{◌≡◌, refl}
use Rattle.ioa_value.specs.declared.limits.TheConstants.{LIMITS}
use Rattle.ioa_crash.specs.Limits.{component_limits}

bytes_of_a_text : LIMITS.text ≡ 1048576
bytes_of_a_text = refl

bytes_of_a_name : LIMITS.name ≡ 64
bytes_of_a_name = refl

levels_of_depth : LIMITS.depth ≡ 64
levels_of_depth = refl

declared_types : LIMITS.types ≡ 1024
declared_types = refl

names_of_an_enumeration : LIMITS.names ≡ 256
names_of_an_enumeration = refl

fields_of_a_tuple : LIMITS.fields ≡ 16
fields_of_a_tuple = refl

items_of_a_sequence : LIMITS.capacity ≡ 256
items_of_a_sequence = refl

words_of_a_type : LIMITS.words ≡ 4096
words_of_a_type = refl

automata_and_compositions : LIMITS.automata ≡ 256
automata_and_compositions = refl

invariants_of_a_source : LIMITS.invariants ≡ 256
invariants_of_a_source = refl

components_of_a_composition : LIMITS.components ≡ 32
components_of_a_composition = refl

hidden_names : LIMITS.hidden ≡ 64
hidden_names = refl

formals_or_parameters : LIMITS.parameters ≡ 8
formals_or_parameters = refl

variables_of_an_automaton : LIMITS.variables ≡ 64
variables_of_an_automaton = refl

entries_of_an_automaton : LIMITS.entries ≡ 64
entries_of_an_automaton = refl

nodes_of_a_part : LIMITS.nodes ≡ 4096
nodes_of_a_part = refl

loops_within_each_other : LIMITS.loops ≡ 3
loops_within_each_other = refl

-- one that crashes and recovers has a variable and two entries more than its automaton in the source, a formal more for each variable,
-- and two nodes more in a part
variables_of_a_component : component_limits.variables ≡ 65
variables_of_a_component = refl

entries_of_a_component : component_limits.entries ≡ 66
entries_of_a_component = refl

formals_of_a_component : component_limits.parameters ≡ 72
formals_of_a_component = refl

nodes_of_a_part_of_a_component : component_limits.nodes ≡ 4098
nodes_of_a_part_of_a_component = refl

-- in all else a component has the limits of a source
other_limits_of_a_component : component_limits ≡ record LIMITS { parameters = 72; variables = 65; entries = 66; nodes = 4098 }
other_limits_of_a_component = refl
