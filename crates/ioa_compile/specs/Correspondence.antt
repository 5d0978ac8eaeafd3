-- When the variables of a table's component hold what an environment says.
use Rattle.std.specs.Prelude.{◌≡◌, ℕ, List, Option, Some, None, slice_get}
use Rattle.ioa_value.specs.Actions.{Name}
use Rattle.ioa_value.specs.Plain.{Val}
use Rattle.ioa_tree.specs.Meaning.{Env, values_of}
use Rattle.ioa_tree.specs.Instances.{Instance, Fit, variable_names}
use Rattle.ioa_tree.specs.WellFormed.{variable_fields}
use Rattle.ioa_tree.specs.Compositions.{Member}

-- slot i holds the value of the i-th declared variable, which is of the variable's type
pub record Corresponds (i : Instance) (env : Env) (slots : List Val) : Type 0 where
  pub values : (x : Name) → env x ≡ values_of (variable_names i.automaton) slots x
  pub typed : Fit i.types (variable_fields i.automaton) slots

abbrev pub CorrespondsIn : Option Member → Env → List Val → Type 0
CorrespondsIn (Some m) env slots = Corresponds m.instance env slots
CorrespondsIn None env slots = ⊥

-- by the place of the component
abbrev pub CorrespondsAt : List Member → ℕ → Env → List Val → Type 0
CorrespondsAt ms i env slots = CorrespondsIn (slice_get ms i) env slots
