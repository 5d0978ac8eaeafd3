-- What is asked of a composition: whether an invariant is true of a component.
use Rattle.std.specs.Prelude.{◌≡◌, ◌≤◌, ℕ, length, IsTrue, List, [], take, Some, slice_get}
use Rattle.std.specs.Str.{bytes_eq}
use Rattle.ioa_value.specs.Plain.{Val}
use Rattle.ioa_value.specs.Table.{AreTypes}
use Rattle.ioa_tree.specs.Tree.{Expr, AutomatonTree, InvariantTree}
use Rattle.ioa_tree.specs.Instances.{Fit}
use Rattle.ioa_tree.specs.Compositions.{Member, Composed}
use Rattle.ioa_tree.specs.WellFormed.{held, has_ty, variable_fields}

-- of the component and the invariant of these numbers
abbrev pub OfThese : Composed → ℕ → ℕ → (Member → InvariantTree → Type 0) → Type 0
OfThese c i k p = (m : Member) (v : InvariantTree) → slice_get c.members i ≡ Some m → slice_get c.invariants k ≡ Some v → p m v

-- the automaton without the variables behind the first so many
abbrev pub first_of : ℕ → AutomatonTree → AutomatonTree
first_of k a = record a { variables = take k a.variables }

-- the numbers are of a component and of an invariant of its automaton, and the values are of the types of the variables that its source
-- declares
pub record IsQuestion (c : Composed) (i k : ℕ) (values : List Val) : Type 0 where
  pub member : Member
  pub invariant : InvariantTree
  pub member_there : slice_get c.members i ≡ Some member
  pub invariant_there : slice_get c.invariants k ≡ Some invariant
  pub about : IsTrue (bytes_eq invariant.automaton member.instance.automaton.name)
  pub fit : Fit member.instance.types (variable_fields (first_of member.declared member.instance.automaton)) values

-- the component's arguments and these values are of the types of its formals and of the variables that its source declares, and the
-- condition is a Bool over both
pub record IsAnswerable (m : Member) (condition : Expr) (values : List Val) : Type 0 where
  pub types : AreTypes m.instance.types
  pub within : m.declared ≤ length m.instance.automaton.variables
  pub arguments : Fit m.instance.types m.instance.automaton.formals m.instance.arguments
  pub state : Fit m.instance.types (variable_fields (first_of m.declared m.instance.automaton)) values
  pub typed : IsTrue (has_ty m.instance.types m.instance.types (held m.instance.types m.instance.types [] (first_of m.declared m.instance.automaton)) condition 0)
