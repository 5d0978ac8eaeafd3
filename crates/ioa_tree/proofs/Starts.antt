-- Values that fit fields, and what variables start with.
use Rattle.std.proofs.Common.{◌≡◌, ℕ, Bool, true, false, IsTrue, List, [], ◌∷◌, ◌++◌, map, Option, Some, None, Result, Ok, Err, All, refl, sym, ap, subst, ◌∙◌, cond}
use Rattle.std.specs.List.{list_all, list_any}
use Rattle.std.specs.Option.{option_map_or}
use Rattle.std.specs.Str.{bytes_eq}
use Rattle.std.proofs.lemmas.Bool.{and_parts, eqb-true}
use Rattle.std.proofs.lemmas.List.Elements.{All-nil, All-cons}
use Rattle.ioa_arithmetic.specs.declared.arithmetic.Fault.{Fault}
use Rattle.ioa_value.specs.Actions.{Name}
use Rattle.ioa_value.specs.Plain.{Val, truth as truth_value}
use Rattle.ioa_value.specs.Operators.{Answer, gives, faults, nothing, IsTypedAnswer}
use Rattle.ioa_value.specs.Table.{Table, AreTypes, type_named}
use Rattle.ioa_value.specs.Typing.{HasType, first_of}
use Rattle.ioa_value.proofs.FirstLemmas.{first_of_typed}
use Rattle.ioa_value.proofs.PlaceLemmas.{type_below}
use Rattle.ioa_tree.specs.Tree.{Expr, FieldTree, VariableTree, AutomatonTree, InstanceTree, SourceTree}
use Rattle.ioa_tree.specs.Meaning.{Env, nothing_known, values_of, val}
use Rattle.ioa_tree.specs.Types.{first_named}
use Rattle.ioa_tree.specs.Instances.{field_names, Fit, settled, start_answer, start_value, with_value, all_values}
use Rattle.ioa_tree.specs.WellFormed.{Context, type_in, type_of, typed_field, context_of, is_type, same_type, start_fine, automaton_fine, is_automaton_of, instance_fine}
use Rattle.ioa_tree.specs.Answers.{HasValueOf, Suits, StartIsTyped, ArgumentIsTyped}
use Rattle.ioa_tree.proofs.ValTyped.{val_typed}
use Rattle.ioa_tree.proofs.FineParts.{fine_parts}

-- two types that are there and the same
pub same_types : (o p : Option ℕ) → same_type o p ≡ true → (n : ℕ) × (o ≡ Some n) × (p ≡ Some n)
same_types (Some a) (Some b) h = (a, refl, ap (λ n. Some n) (eqb-true b a h))
same_types (Some a) None h = absurd (cc)
same_types None p h = absurd (cc)

-- what is there, where a test says so
pub some_there : (o : Option ℕ) → option_map_or (λ n. true) o false ≡ true → (n : ℕ) × (o ≡ Some n)
some_there (Some n) h = (n, refl)
some_there None h = absurd (cc)

module _ (types : Table) where
  -- at the first name, or behind it
  at_name : (b : Bool) (n ty : ℕ) (v : Val) (o : Option ℕ) (p : Option Val)
      → HasType types v n → (o ≡ Some ty → HasValueOf types ty p) → cond b (Some n) o ≡ Some ty → HasValueOf types ty (cond b (Some v) p)
  at_name true n ty v o p h k e = let q : n ≡ ty = cc in subst (HasType types v) q h
  at_name false n ty v o p h k e = k e

  -- a name with its value in front of others
  suits_first : (n : Name) (ty : ℕ) (v : Val) (c : Context) (env : Env) → HasType types v ty → Suits types c env
      → Suits types ((n, ty) ∷ c) (λ x. cond (bytes_eq n x) (Some v) (env x))
  suits_first n ty v c env h k = record {
    stands = λ x u e. at_name (bytes_eq n x) ty u v (type_in c x) (env x) h (k.stands x u) e;
    others = λ x e. not_there (bytes_eq n x) ty v (type_in c x) (env x) (k.others x) e;
  }
    where
      not_there : (b : Bool) (n : ℕ) (v : Val) (o : Option ℕ) (p : Option Val) → (o ≡ None → p ≡ None) → cond b (Some n) o ≡ None → cond b (Some v) p ≡ None
      not_there true n v o p k e = absurd (cc)
      not_there false n v o p k e = k e

  with_type : (f : FieldTree) (o : Option ℕ) (n : ℕ) → o ≡ Some n → option_map_or {U = List (Name × ℕ)} (λ m. (f.name, m) ∷ []) o [] ≡ (f.name, n) ∷ []
  with_type f (Some m) n e = let q : m ≡ n = cc in rw q refl
  with_type f None n e = absurd (cc)

  -- values that fit fields suit the fields' context
  pub suits_of_fit : (fs : List FieldTree) (vs : List Val) → Fit types fs vs → Suits types (context_of types fs) (values_of (field_names fs) vs)
  suits_of_fit [] [] h = record { stands = λ x ty e. absurd (cc); others = λ x e. refl }
  suits_of_fit [] (v ∷ vs) h = absurd h
  suits_of_fit (f ∷ fs) [] h = absurd h
  suits_of_fit (f ∷ fs) (v ∷ vs) h =
      let front : typed_field types f ≡ (f.name, h.0) ∷ [] = with_type f (type_named types f.ty) h.0 h.1 in
      let whole : context_of types (f ∷ fs) ≡ (f.name, h.0) ∷ context_of types fs = ap (λ c. c ++ context_of types fs) front in
      subst (λ c. Suits types c (values_of (field_names (f ∷ fs)) (v ∷ vs))) (sym whole)
      (suits_first f.name h.0 v (context_of types fs) (values_of (field_names fs) vs) h.2 (suits_of_fit fs vs h.3))

  -- a start expression has its variable's type
  pub start_typed : (globals : List Name) (a : AutomatonTree) (v : VariableTree) (e : Expr) → v.start ≡ Some e → start_fine types types globals a v ≡ true
      → (n : ℕ) × (type_of types types (context_of types a.formals) e ≡ Some n) × (type_named types v.field.ty ≡ Some n)
  start_typed globals a v e s h =
      same_types (type_of types types (context_of types a.formals) e) (type_named types v.field.ty)
      (sym (ap (λ o. option_map_or (λ x. same_type (type_of types types (context_of types a.formals) x) (type_named types v.field.ty)) o true) s) ∙ h)

  with_ok : (r : Result Val Fault) (rs : Result (List Val) Fault) (ws : List Val) → with_value r rs ≡ Ok ws
      → (w : Val) × (us : List Val) × (r ≡ Ok w) × (rs ≡ Ok us) × (w ∷ us ≡ ws)
  with_ok (Ok w) (Ok us) ws e = let q : w ∷ us ≡ ws = cc in (w, us, refl, refl, q)
  with_ok (Ok w) (Err f) ws e = absurd (cc)
  with_ok (Err f) rs ws e = absurd (cc)

  pub settled_typed : (ty : ℕ) (a : Answer) (w : Val) → IsTypedAnswer types ty a → settled a ≡ Ok w → HasType types w ty
  settled_typed ty (gives u) w h e = let q : u ≡ w = cc in subst (λ v. HasType types v ty) q h
  settled_typed ty (faults f) w h e = absurd (cc)
  settled_typed ty nothing w h e = absurd h

module _ (types : Table) (declared : AreTypes types) where
  -- the first value of the type of a name is of the type
  pub first_named_typed : (x : Name) (ty : ℕ) → type_named types x ≡ Some ty → HasType types (first_named types x) ty
  first_named_typed x ty e =
      subst (λ v. HasType types v ty) (sym (ap (λ o. option_map_or (first_of types) o (truth_value false)) e)) (first_of_typed types declared ty (type_below types x ty e))

  module _ (globals : List Name) (a : AutomatonTree) (args : List Val) (fit : Fit types a.formals args) where
    env : Env
    env = values_of (field_names a.formals) args

    pub variable_typed : (v : VariableTree) (o : Option Expr) → v.start ≡ o → start_fine types types globals a v ≡ true → is_type types v.field ≡ true
        → StartIsTyped types (values_of (field_names a.formals) args) v
    variable_typed v (Some e) s f k =
        let t = start_typed types globals a v e s f in
        let P : Option Expr → Type 0 = λ o. IsTypedAnswer types t.0 (option_map_or (λ e. val types e (values_of (field_names a.formals) args)) o (gives (first_named types v.field.ty))) in
        (t.0, t.2, subst P (sym s) (val_typed types declared (context_of types a.formals) (values_of (field_names a.formals) args) e t.0 (suits_of_fit types a.formals args fit) t.1))
    variable_typed v None s f k =
        let t = some_there (type_named types v.field.ty) k in
        let P : Option Expr → Type 0 = λ o. IsTypedAnswer types t.0 (option_map_or (λ e. val types e (values_of (field_names a.formals) args)) o (gives (first_named types v.field.ty))) in
        (t.0, t.1, subst P (sym s) (first_named_typed v.field.ty t.0 t.1))

    pub variables_typed : (vs : List VariableTree) → list_all (start_fine types types globals a) vs ≡ true
        → list_all (is_type types) (map (λ v. v.field) vs) ≡ true → All (StartIsTyped types (values_of (field_names a.formals) args)) vs
    variables_typed [] f k = All-nil (StartIsTyped types (values_of (field_names a.formals) args))
    variables_typed (v ∷ vs) f k =
        let fs = and_parts (start_fine types types globals a v) (list_all (start_fine types types globals a) vs) f in
        let ks = and_parts (is_type types v.field) (list_all (is_type types) (map (λ u. u.field) vs)) k in
        All-cons (StartIsTyped types (values_of (field_names a.formals) args)) v vs (variable_typed v v.start refl fs.0 ks.0) (variables_typed vs fs.1 ks.1)

    -- where none faults, the start values fit the variables
    pub starts_fit : (vs : List VariableTree) (ws : List Val) → list_all (start_fine types types globals a) vs ≡ true
        → list_all (is_type types) (map (λ v. v.field) vs) ≡ true
        → all_values (start_value types (values_of (field_names a.formals) args)) vs ≡ Ok ws → Fit types (map (λ v. v.field) vs) ws
    starts_fit [] [] f k h = tt
    starts_fit [] (w ∷ ws) f k h = absurd (cc)
    starts_fit (v ∷ vs) ws f k h =
        let start = start_value types (values_of (field_names a.formals) args) in
        let r = with_ok types (start v) (all_values start vs) ws h in
        let fs = and_parts (start_fine types types globals a v) (list_all (start_fine types types globals a) vs) f in
        let ks = and_parts (is_type types v.field) (list_all (is_type types) (map (λ u. u.field) vs)) k in
        let one = variable_typed v v.start refl fs.0 ks.0 in
        let typed = settled_typed types one.0 (start_answer types (values_of (field_names a.formals) args) v) r.0 one.2 r.2 in
        subst (λ us. Fit types (v.field ∷ map (λ u. u.field) vs) us) r.4 (one.0, one.1, typed, starts_fit vs r.1 fs.1 ks.1 r.3)

    pub automaton_starts : IsTrue (automaton_fine types types globals a) → All (StartIsTyped types (values_of (field_names a.formals) args)) a.variables
    automaton_starts h = let p = fine_parts types types globals a h in variables_typed a.variables p.starts p.variable_types

  -- without any name
  pub nothing_suits : Suits types [] nothing_known
  nothing_suits = record { stands = λ x ty e. absurd (cc); others = λ x e. refl }

  -- arguments have types over no names
  pub argument_typed : (e : Expr) → option_map_or (λ ty. true) (type_of types types [] e) false ≡ true → ArgumentIsTyped types e
  argument_typed e h =
      let t = some_there (type_of types types [] e) h in
      (t.0, val_typed types declared [] nothing_known e t.0 nothing_suits t.1)

  pub arguments_typed : (es : List Expr) → list_all (λ e. option_map_or (λ ty. true) (type_of types types [] e) false) es ≡ true
      → All (ArgumentIsTyped types) es
  arguments_typed [] h = All-nil (ArgumentIsTyped types)
  arguments_typed (e ∷ es) h =
      let p = and_parts (option_map_or (λ ty. true) (type_of types types [] e) false) (list_all (λ e. option_map_or (λ ty. true) (type_of types types [] e) false) es) h in
      All-cons (ArgumentIsTyped types) e es (argument_typed e p.0) (arguments_typed es p.1)

  pub instance_arguments : (before : SourceTree) (i : InstanceTree) → IsTrue (instance_fine types types before i) → All (ArgumentIsTyped types) i.arguments
  instance_arguments before i h =
      arguments_typed i.arguments (and_parts (list_any (is_automaton_of i.automaton) before) (list_all (λ e. option_map_or (λ ty. true) (type_of types types [] e) false) i.arguments) h).1
