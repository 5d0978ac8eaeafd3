-- The composition that a source declares under a name (Lynch 1996, section 8.2).
use Rattle.std.specs.Prelude.{ℕ, Bool, ◌&&◌, List, [], ◌∷◌, map, find, reverse, Option, Some, None}
use Rattle.std.specs.List.{list_any}
use Rattle.std.specs.Str.{bytes_eq}
use Rattle.ioa_value.specs.Actions.{Name}
use Rattle.ioa_value.specs.Plain.{Val}
use Rattle.ioa_value.specs.Table.{Table}
use Rattle.ioa_tree.specs.Tree.{AutomatonTree, CompositionTree, InvariantTree, declared_type, automaton, composition, invariant, SourceTree}
use Rattle.ioa_tree.specs.Meaning.{Env}
use Rattle.ioa_tree.specs.Instances.{Instance, component_of, state_of}
use Rattle.ioa_tree.specs.Components.{Component, is_output}

abbrev pub automata : SourceTree → List AutomatonTree
automata [] = []
automata (declared_type t ∷ ds) = automata ds
automata (automaton a ∷ ds) = a ∷ automata ds
automata (composition c ∷ ds) = automata ds
automata (invariant i ∷ ds) = automata ds

abbrev pub compositions : SourceTree → List CompositionTree
compositions [] = []
compositions (declared_type t ∷ ds) = compositions ds
compositions (automaton a ∷ ds) = compositions ds
compositions (composition c ∷ ds) = c ∷ compositions ds
compositions (invariant i ∷ ds) = compositions ds

-- in their order, by which they are numbered from 0
abbrev pub invariants : SourceTree → List InvariantTree
invariants [] = []
invariants (declared_type t ∷ ds) = invariants ds
invariants (automaton a ∷ ds) = invariants ds
invariants (composition c ∷ ds) = invariants ds
invariants (invariant i ∷ ds) = i ∷ invariants ds

abbrev pub first_item : {X : Type 0} → List X → Option X
first_item [] = None
first_item (x ∷ xs) = Some x

-- the composition of this name, or the last one where no name is given
abbrev pub picked : SourceTree → Option Name → Option CompositionTree
picked s (Some name) = find (λ c. bytes_eq c.name name) (compositions s)
picked s None = first_item (reverse (compositions s))

-- the automaton of this name
abbrev pub automaton_named : SourceTree → Name → Option AutomatonTree
automaton_named s name = find (λ a. bytes_eq a.name name) (automata s)

-- a component: its name, its instance, the start values of its variables in order, and how many of these its source declares: a variable
-- that is added to them stands behind
pub record Member : Type 0 where
  pub name : Name
  pub instance : Instance
  pub starts : List Val
  pub declared : ℕ

-- a composition: its types, its name, its components in order, the names that are hidden, and the source's invariants in order
pub record Composed : Type 0 where
  pub types : Table
  pub name : Name
  pub members : List Member
  pub hidden : List Name
  pub invariants : List InvariantTree

-- the components as the step sees them
abbrev pub components_of : Composed → List (Component Env)
components_of c = map (λ m. component_of m.instance) c.members

-- the states in which they start
abbrev pub starts_of : Composed → List Env
starts_of c = map (λ m. state_of m.instance.automaton m.starts) c.members

-- an output of the automaton has this name
abbrev pub has_output : Name → AutomatonTree → Bool
has_output x a = list_any (λ e. is_output (Some e.kind) && bytes_eq e.name x) a.entries

-- an output of one of the instances has this name
abbrev pub is_output_of : List Instance → Name → Bool
is_output_of is x = list_any (λ i. has_output x i.automaton) is

abbrev pub instances_of : Composed → List Instance
instances_of c = map (λ m. m.instance) c.members
