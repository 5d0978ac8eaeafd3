-- The types of names in the rewritten automaton and in the original.
use Rattle.std.proofs.Common.{◌≡◌, ℕ, Bool, true, false, not, cond, ◌||◌, List, [], ◌∷◌, ◌++◌, map, Option, Some, None, refl, sym, ap, subst, ◌∙◌, true≢false, codes}
use Rattle.std.specs.List.{list_all}
use Rattle.std.specs.Option.{option_map_or}
use Rattle.std.specs.Str.{bytes_eq}
use Rattle.std.proofs.lemmas.Bool.{and_parts}
use Rattle.std.proofs.lemmas.List.{map-append}
use Rattle.std.proofs.lemmas.List.Concat.{flat_map-append}
use Rattle.ioa_value.specs.Actions.{Name}
use Rattle.ioa_value.specs.Table.{Table, AreTypes, bool, type_named, contains, distinct}
use Rattle.ioa_value.proofs.NameLemmas.{same_name, not_true}
use Rattle.ioa_value.proofs.NamedLemmas.{type_there}
use Rattle.ioa_tree.specs.Tree.{CrashTree, FieldTree, EntryTree, VariableTree, AutomatonTree}
use Rattle.ioa_tree.specs.Meaning.{or_else}
use Rattle.ioa_tree.specs.Instances.{field_names, variable_names, position_fields}
use Rattle.ioa_tree.specs.WellFormed.{Context, type_in, context_of, typed_field, is_type, variable_fields, formals, held, scope}
use Rattle.ioa_crash.specs.Rewriting.{spelled, up_name, start_name, up_variable, volatile, start_formal, rewritten}
use Rattle.ioa_crash.proofs.SpelledNames.{not_both, or_none, unspelled, none_unspelled, starts_unspelled}
use Rattle.ioa_crash.proofs.SpelledTrees.{IsSpelled}
use Rattle.ioa_crash.proofs.RewrittenNames.{names_of, volatile_among, added_names}

abbrev pub fields_of : List VariableTree → List FieldTree
fields_of vs = map (λ v. v.field) vs

-- ---- contexts

pub in_both : (c d : Context) (x : Name) → type_in (c ++ d) x ≡ or_else (type_in c x) (type_in d x)
in_both [] d x = refl
in_both (p ∷ ps) d x = go (bytes_eq p.0 x) (in_both ps d x)
  where
    go : (b : Bool) → type_in (ps ++ d) x ≡ or_else (type_in ps x) (type_in d x) → cond b (Some p.1) (type_in (ps ++ d) x) ≡ or_else (cond b (Some p.1) (type_in ps x)) (type_in d x)
    go true k = refl
    go false k = k

in_fields : (types : Table) (fs gs : List FieldTree) (x : Name) → type_in (context_of types (fs ++ gs)) x ≡ or_else (type_in (context_of types fs) x) (type_in (context_of types gs) x)
in_fields types fs gs x =
    ap (λ (c : Context). type_in c x) (flat_map-append (typed_field types) fs gs) ∙ in_both (context_of types fs) (context_of types gs) x

-- names that the fields do not have
pub foreign : (types : Table) (fs : List FieldTree) (y : Name) → contains (field_names fs) y ≡ false → type_in (context_of types fs) y ≡ None
foreign types [] y h = refl
foreign types (f ∷ fs) y h = go (type_named types f.ty) (bytes_eq f.name y) refl h (foreign types fs y)
  where
    go : (o : Option ℕ) (b : Bool) → bytes_eq f.name y ≡ b → (b || contains (field_names fs) y) ≡ false → (contains (field_names fs) y ≡ false → type_in (context_of types fs) y ≡ None)
        → type_in (option_map_or (λ n. (f.name, n) ∷ []) o [] ++ context_of types fs) y ≡ None
    go o true q k more = absurd (true≢false k)
    go None false q k more = more k
    go (Some n) false q k more = ap (λ b. cond b (Some n) (type_in (context_of types fs) y)) q ∙ more k

-- a start's name has the type of its variable
start_type : (types : Table) (vs : List VariableTree) (x : Name) → type_in (context_of types (map start_formal vs)) (start_name x) ≡ type_in (context_of types (fields_of vs)) x
start_type types [] x = refl
start_type types (v ∷ vs) x = go (type_named types v.field.ty) (start_type types vs x)
  where
    go : (o : Option ℕ) → type_in (context_of types (map start_formal vs)) (start_name x) ≡ type_in (context_of types (fields_of vs)) x
        → type_in (option_map_or (λ n. (start_name v.field.name, n) ∷ []) o [] ++ context_of types (map start_formal vs)) (start_name x)
        ≡ type_in (option_map_or (λ n. (v.field.name, n) ∷ []) o [] ++ context_of types (fields_of vs)) x
    go None k = k
    go (Some n) k = ap (λ o. cond (bytes_eq v.field.name x) (Some n) o) k

pub names_of_fields : (vs : List VariableTree) → field_names (fields_of vs) ≡ names_of vs
names_of_fields [] = refl
names_of_fields (v ∷ vs) = ap (λ (ns : List Name). v.field.name ∷ ns) (names_of_fields vs)

start_foreign : (types : Table) (vs : List VariableTree) (x : Name) → spelled x ≡ true → type_in (context_of types (map start_formal vs)) x ≡ None
start_foreign types vs x h =
    foreign types (map start_formal vs) x (ap (λ (ns : List Name). contains ns x) (added_names vs) ∙ starts_unspelled (names_of vs) x h)

first : (b : Bool) (n : ℕ) (o : Option ℕ) → b ≡ true → cond b (Some n) o ≡ Some n
first b n o h = ap (λ c. cond c (Some n) o) h

second : (b : Bool) (n : ℕ) (o : Option ℕ) (m : ℕ) → b ≡ false → o ≡ Some m → cond b (Some n) o ≡ Some m
second b n o m h k = ap (λ c. cond c (Some n) o) h ∙ k

-- each variable that is not stable has one type, which is known
pub volatile_type : (types : Table) (vs : List VariableTree) (x : Name) → distinct (names_of vs) ≡ true → list_all (is_type types) (fields_of vs) ≡ true
    → contains (names_of (volatile vs)) x ≡ true
    → (ty : ℕ) × (type_in (context_of types (fields_of vs)) x ≡ Some ty) × (type_in (context_of types (fields_of (volatile vs))) x ≡ Some ty)
volatile_type types [] x d k h = absurd (true≢false (sym h))
volatile_type types (v ∷ vs) x d k h =
    let e = and_parts (not (contains (names_of vs) v.field.name)) (distinct (names_of vs)) d in
    let f = and_parts (is_type types v.field) (list_all (is_type types) (fields_of vs)) k in
    go v.stable (bytes_eq v.field.name x) (type_named types v.field.ty) refl refl f.0 (not_true (contains (names_of vs) v.field.name) e.0) h (volatile_type types vs x e.1 f.1)
  where
    go : (b c : Bool) (o : Option ℕ) → bytes_eq v.field.name x ≡ c → type_named types v.field.ty ≡ o → option_map_or (λ n. true) o false ≡ true
        → contains (names_of vs) v.field.name ≡ false → contains (names_of (cond (not b) (v ∷ volatile vs) (volatile vs))) x ≡ true
        → (contains (names_of (volatile vs)) x ≡ true
        → (ty : ℕ) × (type_in (context_of types (fields_of vs)) x ≡ Some ty) × (type_in (context_of types (fields_of (volatile vs))) x ≡ Some ty))
        → (ty : ℕ) × (type_in (option_map_or (λ n. (v.field.name, n) ∷ []) o [] ++ context_of types (fields_of vs)) x ≡ Some ty)
        × (type_in (context_of types (fields_of (cond (not b) (v ∷ volatile vs) (volatile vs)))) x ≡ Some ty)
    go b c None q r s u w more = absurd (true≢false (sym s))
    go false true (Some n) q r s u w more = (
      n,
      first (bytes_eq v.field.name x) n (type_in (context_of types (fields_of vs)) x) q,
      subst (λ (o : Option ℕ). type_in (option_map_or (λ n. (v.field.name, n) ∷ []) o [] ++ context_of types (fields_of (volatile vs))) x ≡ Some n) (sym r)
          (first (bytes_eq v.field.name x) n (type_in (context_of types (fields_of (volatile vs))) x) q),
    )
    go false false (Some n) q r s u w more =
        let m = more (sym (ap (λ (d : Bool). d || contains (names_of (volatile vs)) x) q) ∙ w) in (
          m.0,
          second (bytes_eq v.field.name x) n (type_in (context_of types (fields_of vs)) x) m.0 q m.1,
          subst (λ (o : Option ℕ). type_in (option_map_or (λ n. (v.field.name, n) ∷ []) o [] ++ context_of types (fields_of (volatile vs))) x ≡ Some m.0) (sym r)
              (second (bytes_eq v.field.name x) n (type_in (context_of types (fields_of (volatile vs))) x) m.0 q m.2),
        )
    go true true (Some n) q r s u w more =
        let same : v.field.name ≡ x = same_name v.field.name x q in
        not_both (contains (names_of vs) v.field.name) (ap (contains (names_of vs)) same ∙ volatile_among vs x w) u
    go true false (Some n) q r s u w more =
        let m = more w in
        (m.0, second (bytes_eq v.field.name x) n (type_in (context_of types (fields_of vs)) x) m.0 q m.1, m.2)

pub bool_named : (types : Table) → AreTypes types → type_named types (codes "Bool") ≡ Some 0
bool_named types d = type_there types 0 bool d.different d.first

module _ (types : Table) (declared : AreTypes types) (g : List Name) (n : CrashTree) (a : AutomatonTree) (names : IsSpelled a) where
  abbrev pub more : AutomatonTree
  more = rewritten n a

  -- what is not spelled has no type in the original
  variable_foreign : (y : Name) → type_in (context_of types (variable_fields a)) (35 ∷ y) ≡ None
  variable_foreign y =
      foreign types (variable_fields a) (35 ∷ y) (ap (λ (ns : List Name). contains ns (35 ∷ y)) (names_of_fields a.variables) ∙ none_unspelled (variable_names a) y names.variables)

  formal_foreign : (y : Name) → type_in (context_of types a.formals) (35 ∷ y) ≡ None
  formal_foreign y = foreign types a.formals (35 ∷ y) (none_unspelled (field_names a.formals) y names.formals)

  up_type : (x : Name) → type_in (context_of types (up_variable.field ∷ [])) x ≡ cond (bytes_eq up_name x) (Some 0) None
  up_type x = ap (λ (o : Option ℕ). type_in (option_map_or (λ n. (up_name, n) ∷ []) o [] ++ []) x) (bool_named types declared)

  variables_more : (x : Name) → type_in (context_of types (variable_fields more)) x ≡ or_else (type_in (context_of types (variable_fields a)) x) (cond (bytes_eq up_name x) (Some 0) None)
  variables_more x =
      ap (λ (fs : List FieldTree). type_in (context_of types fs) x) (map-append (λ v. v.field) a.variables (up_variable ∷ []))
      ∙ in_fields types (variable_fields a) (up_variable.field ∷ []) x ∙ ap (λ o. or_else (type_in (context_of types (variable_fields a)) x) o) (up_type x)

  formals_more : (x : Name) → type_in (context_of types more.formals) x ≡ or_else (type_in (context_of types a.formals) x) (type_in (context_of types (map start_formal (volatile a.variables))) x)
  formals_more x = in_fields types a.formals (map start_formal (volatile a.variables)) x

  -- ---- spelled names have their types

  pub variables_same : (x : Name) → spelled x ≡ true → type_in (context_of types (variable_fields a)) x ≡ type_in (context_of types (variable_fields more)) x
  variables_same x s =
      sym (variables_more x ∙ ap (λ b. or_else (type_in (context_of types (variable_fields a)) x) (cond b (Some 0) None)) (unspelled (codes "up") x s)
      ∙ or_none (type_in (context_of types (variable_fields a)) x))

  pub formals_same : (x : Name) → spelled x ≡ true → type_in (formals types types g a) x ≡ type_in (formals types types [] more) x
  formals_same x s =
      sym (formals_more x ∙ ap (λ o. or_else (type_in (context_of types a.formals) x) o) (start_foreign types (volatile a.variables) x s)
      ∙ or_none (type_in (context_of types a.formals) x))

  pub held_same : (x : Name) → spelled x ≡ true → type_in (held types types g a) x ≡ type_in (held types types [] more) x
  held_same x s =
      in_both (context_of types (variable_fields a)) (context_of types a.formals) x
      ∙ ap (λ o. or_else o (type_in (context_of types a.formals) x)) (variables_same x s)
      ∙ ap (λ o. or_else (type_in (context_of types (variable_fields more)) x) o) (formals_same x s)
      ∙ sym (in_both (context_of types (variable_fields more)) (context_of types more.formals) x)

  pub scope_same : (e : EntryTree) (x : Name) → spelled x ≡ true → type_in (scope types types g a e) x ≡ type_in (scope types types [] more e) x
  scope_same e x s =
      in_both (held types types g a) (context_of types (position_fields e.positions)) x
      ∙ ap (λ o. or_else o (type_in (context_of types (position_fields e.positions)) x)) (held_same x s)
      ∙ sym (in_both (held types types [] more) (context_of types (position_fields e.positions)) x)

  -- ---- the added names

  pub up_variable_typed : type_in (context_of types (variable_fields more)) up_name ≡ Some 0
  up_variable_typed = variables_more up_name ∙ ap (λ o. or_else o (Some 0)) (variable_foreign (codes "up"))

  pub in_scope : (e : EntryTree) (x : Name) → type_in (scope types types [] more e) x
      ≡ or_else (or_else (type_in (context_of types (variable_fields more)) x) (type_in (context_of types more.formals) x)) (type_in (context_of types (position_fields e.positions)) x)
  in_scope e x =
      in_both (held types types [] more) (context_of types (position_fields e.positions)) x
      ∙ ap (λ o. or_else o (type_in (context_of types (position_fields e.positions)) x)) (in_both (context_of types (variable_fields more)) (context_of types more.formals) x)

  pub up_typed : (e : EntryTree) → type_in (scope types types [] more e) up_name ≡ Some 0
  up_typed e =
      in_scope e up_name
      ∙ ap (λ o. or_else (or_else o (type_in (context_of types more.formals) up_name)) (type_in (context_of types (position_fields e.positions)) up_name)) up_variable_typed

  -- a start's name has its variable's type
  pub start_typed : (e : EntryTree) (x : Name) (ty : ℕ) → type_in (context_of types (fields_of (volatile a.variables))) x ≡ Some ty
      → type_in (scope types types [] more e) (start_name x) ≡ Some ty
  start_typed e x ty h =
      let variable : type_in (context_of types (variable_fields more)) (start_name x) ≡ None = variables_more (start_name x) ∙ ap (λ o. or_else o None) (variable_foreign (35 ∷ x)) in
      let formal : type_in (context_of types more.formals) (start_name x) ≡ Some ty =
      formals_more (start_name x) ∙ ap (λ o. or_else o (type_in (context_of types (map start_formal (volatile a.variables))) (start_name x))) (formal_foreign (35 ∷ x))
      ∙ start_type types (volatile a.variables) x ∙ h in
      in_scope e (start_name x)
      ∙ ap (λ o. or_else (or_else o (type_in (context_of types more.formals) (start_name x))) (type_in (context_of types (position_fields e.positions)) (start_name x))) variable
      ∙ ap (λ o. or_else o (type_in (context_of types (position_fields e.positions)) (start_name x))) formal
