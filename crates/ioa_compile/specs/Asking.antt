-- Code for the conditions of invariants, which is asked of a component's slots.
use Rattle.std.specs.Prelude.{◌≡◌, ℕ, List, [], ◌∷◌, Option, Some, slice_get}
use Rattle.ioa_value.specs.Plain.{Val}
use Rattle.ioa_code.specs.declared.instr.PartKind.TheVariants.{Pre}
use Rattle.ioa_code.specs.Valid.{Part}
use Rattle.ioa_parts.specs.Nodes.{Node}
use Rattle.ioa_tree.specs.Tree.{Expr}
use Rattle.ioa_tree.specs.Meaning.{Env, over, val}
use Rattle.ioa_tree.specs.Instances.{formal_values, state_of}
use Rattle.ioa_tree.specs.Compositions.{Member, Composed}
use Rattle.ioa_tree.specs.WellFormed.{variable_fields}
use Rattle.ioa_compose.specs.Questions.{OfThese}
use Rattle.ioa_compile.specs.CodeEnds.{GuardEnds}
use Rattle.ioa_compile.specs.Correspondence.{Corresponds}
use Rattle.ioa_compile.specs.Matching.{AreTypesOf}

-- the part is a precondition's, over the slots of the component's variables, and ends with what the condition means where they have their values
pub record Asks (m : Member) (condition : Expr) (part : Part) : Type 0 where
  pub kind : part.kind ≡ Pre
  pub result : part.result ≡ 0 ∷ []
  pub types : part.code.types ≡ m.instance.types
  pub slots : AreTypesOf m.instance.types (variable_fields m.instance.automaton) part.slots
  pub args : part.args ≡ []
  pub ends : (env : Env) (slots : List Val) → Corresponds m.instance env slots → GuardEnds part slots [] (val m.instance.types condition (over env (formal_values m.instance)))

-- the parts of the first so many invariants, for the component of this number: each asks the condition of an invariant of its automaton
abbrev pub AskAll : Composed → ℕ → List (Option Part) → Type 0
AskAll c i parts = (k : ℕ) (part : Part) → slice_get parts k ≡ Some (Some part) → OfThese c i k (λ m v. Asks m v.condition part)

-- so for each component
abbrev pub AreAsked : Composed → List (List (Option Part)) → Type 0
AreAsked c codes = (i : ℕ) (parts : List (Option Part)) → slice_get codes i ≡ Some parts → AskAll c i parts

-- the state is one of the component of this number: it has its types, and its variables' values are of theirs
pub record IsStateOf (m : Member) (n : Node) : Type 0 where
  pub table : n.table ≡ m.instance.types
  pub types : AreTypesOf m.instance.types (variable_fields m.instance.automaton) n.types
  pub values : Corresponds m.instance (state_of m.instance.automaton n.values) n.values
