-- What each component of a composition keeps.
use Rattle.std.specs.Prelude.{◌≡◌, ◌<◌, ◌≤◌, ℕ, not, All, IsTrue, List, [], ◌∷◌, Ok, map, drop, length}
use Rattle.std.specs.List.{list_all}
use Rattle.std.specs.Str.{bytes_eq}
use Rattle.ioa_value.specs.Actions.{Name}
use Rattle.ioa_value.specs.Names.{IsName}
use Rattle.ioa_value.specs.Table.{Table, AreTypes, contains, all_names}
use Rattle.ioa_value.specs.declared.limits.Limits.{Limits}
use Rattle.ioa_value.specs.declared.limits.TheConstants.{LIMITS}
use Rattle.ioa_tree.specs.Tree.{InvariantTree}
use Rattle.ioa_tree.specs.Names.{names_of_expr}
use Rattle.ioa_tree.specs.Instances.{Instance, Fit, start_values}
use Rattle.ioa_tree.specs.Components.{Compatible}
use Rattle.ioa_tree.specs.Compositions.{Member, Composed, components_of, instances_of, is_output_of}
use Rattle.ioa_tree.specs.WellFormed.{distinct, variable_fields, held, has_ty, automaton_fine, entry_within, automaton_within}
use Rattle.ioa_crash.specs.Limits.{component_limits}
use Rattle.ioa_compose.specs.Questions.{OfThese}
use Rattle.ioa_crash.specs.Rewriting.{spelled}

-- the component's name and those of its entries are legal, the automaton has an entry, is well formed and within these limits, but that
-- an entry has no more positions than in a source, the arguments are of the formals' types, and the start values, of the variables' types,
-- are those of the start expressions; and no text spells the name of a variable behind those that the source declares
pub record IsFine (most : Limits) (m : Member) : Type 0 where
  pub legal : IsName m.name
  pub some_entries : 0 < length m.instance.automaton.entries
  pub legal_entries : All (λ e. IsName e.name) m.instance.automaton.entries
  pub automaton : (globals : List Name) × IsTrue (automaton_fine m.instance.types m.instance.types globals m.instance.automaton)
  pub within : IsTrue (automaton_within most m.instance.automaton)
  pub narrow : IsTrue (list_all (entry_within LIMITS) m.instance.automaton.entries)
  pub arguments : Fit m.instance.types m.instance.automaton.formals m.instance.arguments
  pub starts : Fit m.instance.types (variable_fields m.instance.automaton) m.starts
  pub started : start_values m.instance ≡ Ok m.starts
  pub declared : m.declared ≤ length m.instance.automaton.variables
  pub added : IsTrue (list_all (λ v. not (spelled v.field.name)) (drop m.declared m.instance.automaton.variables))

abbrev pub AllFine : Limits → List Member → Type 0
AllFine most [] = Unit {0}
AllFine most (m ∷ ms) = IsFine most m × AllFine most ms

-- the instances have these types
abbrev pub AreOver : Table → List Member → Type 0
AreOver types [] = Unit {0}
AreOver types (m ∷ ms) = (m.instance.types ≡ types) × AreOver types ms

-- the invariant, if it is of the instance's automaton, is a Bool over its variables and formals
abbrev pub IsTyped : Instance → InvariantTree → Type 0
IsTyped n v = IsTrue (bytes_eq v.automaton n.automaton.name) → IsTrue (has_ty n.types n.types (held n.types n.types [] n.automaton) v.condition 0)

-- what a composition keeps: its name is legal and none that a type gives, it has a component, the components have one table of types
-- and different names, and so have the hidden outputs; and the invariants are well typed, and name what a text can spell
pub record IsSound (c : Composed) : Type 0 where
  pub types : AreTypes c.types
  pub legal : IsName c.name
  pub apart : IsTrue (not (contains (all_names c.types) c.name))
  pub names : IsTrue (distinct (map (λ m. m.name) c.members))
  pub some : 0 < length c.members
  pub few : length c.members ≤ LIMITS.components
  pub hidden : IsTrue (distinct c.hidden)
  pub few_hidden : length c.hidden ≤ LIMITS.hidden
  pub outputs : IsTrue (list_all (is_output_of (instances_of c)) c.hidden)
  pub over : AreOver c.types c.members
  pub members : AllFine component_limits c.members
  pub compatible : Compatible (components_of c)
  pub few_invariants : length c.invariants ≤ LIMITS.invariants
  pub invariants : (i k : ℕ) → OfThese c i k (λ m v. IsTyped m.instance v)
  pub conditions : All (λ v. IsTrue (list_all spelled (names_of_expr v.condition))) c.invariants
