-- What names stand for where an effect begins: names with values in front of others, one by one.
use Rattle.std.proofs.Common.{◌≡◌, ◌≤◌, ◌-◌, Bool, true, false, List, [], ◌∷◌, Option, Some, None, ap, ap₂, arith, cond, drop, get_or, length, refl, take, ◌∙◌}
use Rattle.std.specs.Str.{bytes_eq}
use Rattle.std.proofs.lemmas.List.{take_all}
use mathlib.Core.Path.{fun_ext}
use Rattle.ioa_value.specs.Actions.{Name}
use Rattle.ioa_value.specs.Plain.{Val}
use Rattle.ioa_tree.specs.Instances.{field_names, parameter_values, position_fields}
use Rattle.ioa_tree.specs.Meaning.{Env, nothing_known, or_else, over, values_of, with_name}
use Rattle.ioa_tree.specs.Tree.{PositionTree}

-- ---- the first of a list, and the others

abbrev pub rest_of : {X : Type 0} → List X → List X
rest_of xs = take (length xs - 1) (drop 1 xs)

pub first_and_rest : {X : Type 0} (xs : List X) (x : X) → 1 ≤ length xs → x ≡ get_or xs 0 x → x ∷ rest_of xs ≡ xs
first_and_rest [] x some at = absurd (omega (arith, some))
first_and_rest {X} (y ∷ ys) x some at = ap₂ (λ (z : X) (zs : List X). z ∷ zs) at (take_all (length (y ∷ ys) - 1) ys (omega arith))

-- ---- names in front of others

-- names without values stand for nothing
none_named : (names : List Name) (env : Env) → env ≡ over (values_of names []) env
none_named [] env = refl
none_named (x ∷ names) env = refl

pub no_parameters : (ps : List PositionTree) (env : Env) → env ≡ over (values_of (field_names (position_fields ps)) (parameter_values ps [])) env
no_parameters [] env = refl
no_parameters (p ∷ ps) env = none_named (field_names (position_fields (p ∷ ps))) env

pub over_nothing : (env : Env) → over env nothing_known ≡ env
over_nothing env = fun_ext (λ x. either (env x))
  where
    either : (o : Option Val) → or_else o None ≡ o
    either (Some v) = refl
    either None = refl

-- a name in front of those that stand for values
first_named : (x : Name) (v : Val) (names : List Name) (vs : List Val) (env : Env) → with_name (over (values_of names vs) env) x v ≡ over (values_of (x ∷ names) (v ∷ vs)) env
first_named x v names vs env = fun_ext (λ y. either y (bytes_eq x y))
  where
    either : (y : Name) (t : Bool) → cond t (Some v) (over (values_of names vs) env y) ≡ or_else (cond t (Some v) (values_of names vs y)) (env y)
    either y true = refl
    either y false = refl

pub next_named : (x : Name) (v w : Val) (names : List Name) (vs : List Val) (old mid new : Env) → mid ≡ over (values_of names vs) old → w ≡ v → new ≡ with_name mid x w
    → new ≡ over (values_of (x ∷ names) (v ∷ vs)) old
next_named x v w names vs old mid new before copy is =
    is ∙ ap (λ (u : Val). with_name mid x u) copy ∙ ap (λ (e : Env). with_name e x v) before ∙ first_named x v names vs old
