-- What names stand for while an effect is followed, and what may be evaluated and followed by them.
use Rattle.std.specs.Prelude.{◌≡◌, ◌+◌, ℕ, Bool, true, false, List, [], ◌∷◌, ◌++◌, Option, Some, None, map, if◌then◌else◌}
use Rattle.std.specs.List.{list_all}
use Rattle.std.specs.Option.{option_map_or}
use Rattle.std.specs.Str.{bytes_eq}
use Rattle.ioa_value.specs.Actions.{Name}
use Rattle.ioa_value.specs.Plain.{plain}
use Rattle.ioa_value.specs.Table.{Table}
use Rattle.ioa_tree.specs.Answers.{Suits}
use Rattle.ioa_tree.specs.Meaning.{Env, or_else, without}
use Rattle.ioa_tree.specs.Tree.{Expr}
use Rattle.ioa_tree.specs.View.{name_of}
use Rattle.ioa_tree.specs.WellFormed.{Context, type_of}
use Rattle.ioa_coverage.specs.declared.scope.Binding.{Binding}

-- one binding alone
abbrev pub bound : Binding → Env
bound b x = if bytes_eq (name_of b.name.now) x then Some (plain b.value) else None

-- of several of one name the last counts
abbrev pub known : List Binding → Env
known [] x = None
known (b ∷ bs) x = or_else (known bs x) (bound b x)

abbrev pub names_in : List Binding → List Name
names_in bs = map (λ b. name_of b.name.now) bs

-- the place of the last binding of a name
abbrev pub here_or : Option ℕ → Bool → Option ℕ
here_or (Some i) is = Some (i + 1)
here_or None true = Some 0
here_or None false = None

abbrev pub place_in : List Binding → Name → Option ℕ
place_in [] x = None
place_in (b ∷ bs) x = here_or (place_in bs x) (bytes_eq (name_of b.name.now) x)

-- what is left of these, where a name that stood for nothing before is taken away again
pub record IsUnbound (before : List Binding) (x : Name) (old new : List Binding) : Type 0 where
  pub stands : known new ≡ without x (known before) (known old)
  pub names : names_in new ≡ names_in before

abbrev pub Unbinds : List Binding → List Binding → Type 0
Unbinds old new = (before : List Binding) (x : Name) → names_in old ≡ names_in before ++ x ∷ [] → known before x ≡ None → IsUnbound before x old new

-- ---- what may be evaluated: what has a type, where each name of a context stands for a value of its type

abbrev pub IsTypedIn : Table → Env → Expr → Type 0
IsTypedIn types env e = (c : Context) × Suits types c env × ((ty : ℕ) × (type_of types types c e ≡ Some ty))

abbrev pub AreTypedIn : Table → Env → List Expr → Type 0
AreTypedIn types env es = (c : Context) × Suits types c env × (list_all (λ e. option_map_or (λ ty. true) (type_of types types c e) false) es ≡ true)
