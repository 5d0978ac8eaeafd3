-- What names stand for in the rewritten instance and in the original.
use Rattle.std.proofs.Common.{◌≡◌, Bool, true, false, not, cond, ◌||◌, List, [], ◌∷◌, ◌++◌, map, length, Option, Some, None, Result, Ok, Err, refl, sym, ap, ◌∙◌, arith, codes}
use Rattle.std.specs.List.{list_all}
use Rattle.std.specs.Str.{bytes_eq}
use Rattle.std.proofs.lemmas.Bool.{or_right}
use Rattle.std.proofs.lemmas.List.{map-append}
use Rattle.std.proofs.lemmas.List.Folds.{list_any-append}
use Rattle.ioa_arithmetic.specs.declared.arithmetic.Fault.{Fault}
use Rattle.ioa_value.specs.Actions.{Name}
use Rattle.ioa_value.specs.Plain.{Val, truth as truth_value}
use Rattle.ioa_value.specs.Table.{Table, contains}
use Rattle.ioa_value.proofs.NameLemmas.{same_name, own_name}
use Rattle.ioa_tree.specs.Tree.{CrashTree, FieldTree, EntryTree, VariableTree}
use Rattle.ioa_tree.specs.Meaning.{Env, values_of, or_else, kept, with_name, without}
use Rattle.ioa_tree.specs.Instances.{Instance, field_names, variable_names, formal_values, position_fields, parameter_values, environment, start_value, with_value, all_values, Fit}
use Rattle.ioa_tree.specs.Hosts.{HostState}
use Rattle.ioa_crash.specs.Rewriting.{spelled, up_name, start_name, up_variable, volatile, volatile_values, start_formal, crashing}
use Rattle.ioa_crash.specs.Crashes.{Corresponds, MayCrash}
use Rattle.ioa_crash.proofs.SpelledNames.{not_both, or_none, or_false, absent, appended, unspelled, none_unspelled, starts_unspelled, starts_not_up, start_of}
use Rattle.ioa_crash.proofs.SpelledTrees.{IsSpelled, automaton_spelled}

abbrev pub names_of : List VariableTree → List Name
names_of vs = map (λ v. v.field.name) vs

-- ---- lists

pub volatile_length : (vs : List VariableTree) (ws : List Val) → length (names_of vs) ≡ length ws → length (names_of (volatile vs)) ≡ length (volatile_values vs ws)
volatile_length [] ws l = refl
volatile_length (v ∷ vs) [] l = absurd (omega arith)
volatile_length (v ∷ vs) (w ∷ ws) l = go v.stable (volatile_length vs ws (omega arith))
  where
    go : (b : Bool) → length (names_of (volatile vs)) ≡ length (volatile_values vs ws)
        → length (names_of (cond (not b) (v ∷ volatile vs) (volatile vs))) ≡ length (cond b (volatile_values vs ws) (w ∷ volatile_values vs ws))
    go true k = k
    go false k = omega arith

or_more : (c d e : Bool) → (d ≡ true → e ≡ true) → (c || d) ≡ true → (c || e) ≡ true
or_more true d e h k = refl
or_more false d e h k = h k

pub volatile_among : (vs : List VariableTree) (x : Name) → contains (names_of (volatile vs)) x ≡ true → contains (names_of vs) x ≡ true
volatile_among [] x h = h
volatile_among (v ∷ vs) x h = go v.stable h (volatile_among vs x)
  where
    go : (b : Bool) → contains (names_of (cond (not b) (v ∷ volatile vs) (volatile vs))) x ≡ true
        → (contains (names_of (volatile vs)) x ≡ true → contains (names_of vs) x ≡ true) → (bytes_eq v.field.name x || contains (names_of vs) x) ≡ true
    go true k more = or_right (bytes_eq v.field.name x) (contains (names_of vs) x) (more k)
    go false k more = or_more (bytes_eq v.field.name x) (contains (names_of (volatile vs)) x) (contains (names_of vs) x) more k

pub added_names : (vs : List VariableTree) → field_names (map start_formal vs) ≡ map start_name (names_of vs)
added_names [] = refl
added_names (v ∷ vs) = ap (λ (ns : List Name). start_name v.field.name ∷ ns) (added_names vs)

pub formal_names : (fs : List FieldTree) (vs : List VariableTree) → field_names (fs ++ map start_formal vs) ≡ field_names fs ++ map start_name (names_of vs)
formal_names [] vs = added_names vs
formal_names (f ∷ fs) vs = ap (λ (ns : List Name). f.name ∷ ns) (formal_names fs vs)

pub names_more : (vs : List VariableTree) → names_of (vs ++ up_variable ∷ []) ≡ names_of vs ++ up_name ∷ []
names_more vs = map-append (λ v. v.field.name) vs (up_variable ∷ [])

pub values_length : (f : VariableTree → Result Val Fault) (vs : List VariableTree) (ws : List Val) → all_values f vs ≡ Ok ws → length (names_of vs) ≡ length ws
values_length f [] ws h = let e : ws ≡ [] = cc in rw e refl
values_length f (v ∷ vs) ws h = go (f v) (all_values f vs) h (values_length f vs)
  where
    go : (r : Result Val Fault) (q : Result (List Val) Fault) → with_value r q ≡ Ok ws
        → ((us : List Val) → q ≡ Ok us → length (names_of vs) ≡ length us) → length (names_of (v ∷ vs)) ≡ length ws
    go (Ok w) (Ok us) e more = let same : ws ≡ w ∷ us = cc in let l : length (names_of vs) ≡ length us = more us refl in rw (same, l) refl
    go (Ok w) (Err f) e more = absurd (cc)
    go (Err f) q e more = absurd (cc)

pub fit_length : (types : Table) (fs : List FieldTree) (vs : List Val) → Fit types fs vs → length (field_names fs) ≡ length vs
fit_length types [] [] h = refl
fit_length types [] (v ∷ vs) h = absurd h
fit_length types (f ∷ fs) [] h = absurd h
fit_length types (f ∷ fs) (v ∷ vs) h = let l : length (field_names fs) ≡ length vs = fit_length types fs vs h.3 in omega arith

-- ---- environments

-- behind two that do not know the name
pub behind : (o p q : Option Val) → o ≡ None → p ≡ None → or_else o (or_else p q) ≡ q
behind None None q h k = refl
behind None (Some v) q h k = absurd (cc)
behind (Some v) p q h k = absurd (cc)

pub stands : (f g : Option Val) (w : Val) → (u : Val) × (or_else f (or_else g (Some w)) ≡ Some u)
stands (Some v) g w = (v, refl)
stands None (Some v) w = (v, refl)
stands None None w = (w, refl)

-- environments that say the same of spelled names, where variables have values; and the first says whether the host is up
pub record Matches (ns : List Name) (b : Bool) (m n : Env) : Type 0 where
  pub up : m up_name ≡ Some (truth_value b)
  pub agree : (x : Name) → spelled x ≡ true → m x ≡ n x
  pub present : (x : Name) → contains ns x ≡ true → (w : Val) × (n x ≡ Some w)

pub matches_kept : (ns : List Name) (b : Bool) (m n : Env) (x : Name) (v : Val) → spelled x ≡ true → Matches ns b m n → Matches ns b (with_name m x v) (with_name n x v)
matches_kept ns b m n x v h r = record {
  up = up (bytes_eq x up_name) refl;
  agree = λ y k. ap (λ (o : Option Val). cond (bytes_eq x y) (Some v) o) (r.agree y k);
  present = λ y k. present (bytes_eq x y) (n y) (r.present y k);
}
  where
    up : (c : Bool) → bytes_eq x up_name ≡ c → cond c (Some v) (m up_name) ≡ Some (truth_value b)
    up true e = let same : x ≡ up_name = same_name x up_name e in not_both (spelled x) h (ap spelled same)
    up false e = r.up

    present : (c : Bool) (o : Option Val) → (w : Val) × (o ≡ Some w) → (w : Val) × (cond c (Some v) o ≡ Some w)
    present true o k = (v, refl)
    present false o k = k

-- a spelled name that is given back
pub matches_back : (ns : List Name) (b : Bool) (m n u w : Env) (x : Name) → spelled x ≡ true → Matches ns b m n → Matches ns b u w
    → Matches ns b (without x m u) (without x n w)
matches_back ns b m n u w x h r q = record {
  up = up (bytes_eq x up_name) refl;
  agree = λ y k. agree (bytes_eq x y) (m y) (n y) (u y) (w y) (r.agree y k) (q.agree y k);
  present = λ y k. present (bytes_eq x y) (n y) (w y) (r.present y k) (q.present y k);
}
  where
    up : (c : Bool) → bytes_eq x up_name ≡ c → cond c (m up_name) (u up_name) ≡ Some (truth_value b)
    up true e = let same : x ≡ up_name = same_name x up_name e in not_both (spelled x) h (ap spelled same)
    up false e = q.up

    agree : (c : Bool) (f g o p : Option Val) → f ≡ g → o ≡ p → cond c f o ≡ cond c g p
    agree true f g o p e k = e
    agree false f g o p e k = k

    present : (c : Bool) (o p : Option Val) → (v : Val) × (o ≡ Some v) → (v : Val) × (p ≡ Some v) → (v : Val) × (cond c o p ≡ Some v)
    present true o p k l = k
    present false o p k l = l

-- ---- what is kept of an environment

pub kept_up : (ns : List Name) (m : Env) → kept (ns ++ up_name ∷ []) m up_name ≡ m up_name
kept_up ns m =
    ap (λ b. cond b (m up_name) None)
    (list_any-append (λ n. bytes_eq n up_name) ns (up_name ∷ []) ∙ or_right (contains ns up_name) (contains (up_name ∷ []) up_name) (ap (λ b. b || false) (own_name up_name)))

pub kept_more : (ns : List Name) (m : Env) (x : Name) → spelled x ≡ true → kept (ns ++ up_name ∷ []) m x ≡ kept ns m x
kept_more ns m x h =
    let none : (bytes_eq up_name x || false) ≡ false = or_false (bytes_eq up_name x) ∙ unspelled (codes "up") x h in
    ap (λ b. cond b (m x) None) (list_any-append (λ n. bytes_eq n x) ns (up_name ∷ []) ∙ ap (λ b. contains ns x || b) none ∙ or_false (contains ns x))

pub kept_at : (ns : List Name) (m : Env) (x : Name) → contains ns x ≡ true → kept ns m x ≡ m x
kept_at ns m x h = ap (λ b. cond b (m x) None) h

pub kept_not : (ns : List Name) (m : Env) (x : Name) → contains ns x ≡ false → kept ns m x ≡ None
kept_not ns m x h = ap (λ b. cond b (m x) None) h

-- ---- the rewritten instance's environment

module _ (n : CrashTree) (i : Instance) (starts : List Val) (h : MayCrash n i starts) where
  pub names : IsSpelled i.automaton
  names = automaton_spelled i.automaton h.legal

  pub starts_length : length (variable_names i.automaton) ≡ length starts
  starts_length = values_length (start_value i.types (formal_values i)) i.automaton.variables starts h.started

  pub arguments_length : length (field_names i.automaton.formals) ≡ length i.arguments
  arguments_length = fit_length i.types i.automaton.formals i.arguments h.arguments

  -- what an added formal stands for
  abbrev pub added : Env
  added = values_of (map start_name (names_of (volatile i.automaton.variables))) (volatile_values i.automaton.variables starts)

  pub extended : (x : Name) → formal_values (crashing n i starts) x ≡ or_else (formal_values i x) (added x)
  extended x =
      ap (λ (ns : List Name). values_of ns (i.arguments ++ volatile_values i.automaton.variables starts) x) (formal_names i.automaton.formals (volatile i.automaton.variables))
      ∙ appended (field_names i.automaton.formals) (map start_name (names_of (volatile i.automaton.variables))) i.arguments (volatile_values i.automaton.variables starts) x arguments_length

  pub formals_same : (x : Name) → spelled x ≡ true → formal_values (crashing n i starts) x ≡ formal_values i x
  formals_same x s =
      let none : added x ≡ None =
      absent (map start_name (names_of (volatile i.automaton.variables))) (volatile_values i.automaton.variables starts) x (starts_unspelled (names_of (volatile i.automaton.variables)) x s) in
      extended x ∙ ap (λ (o : Option Val). or_else (formal_values i x) o) none ∙ or_none (formal_values i x)

  formal_absent : (y : Name) → formal_values i (35 ∷ y) ≡ None
  formal_absent y = absent (field_names i.automaton.formals) i.arguments (35 ∷ y) (none_unspelled (field_names i.automaton.formals) y names.formals)

  formals_up : formal_values (crashing n i starts) up_name ≡ None
  formals_up =
      let none : added up_name ≡ None =
      absent (map start_name (names_of (volatile i.automaton.variables))) (volatile_values i.automaton.variables starts) up_name (starts_not_up (names_of (volatile i.automaton.variables))) in
      extended up_name ∙ ap (λ (o : Option Val). or_else o (added up_name)) (formal_absent _) ∙ none

  -- an added formal stands for its variable's start value
  pub formals_start : (x : Name) → formal_values (crashing n i starts) (start_name x)
      ≡ values_of (names_of (volatile i.automaton.variables)) (volatile_values i.automaton.variables starts) x
  formals_start x =
      extended (start_name x) ∙ ap (λ (o : Option Val). or_else o (added (start_name x))) (formal_absent (35 ∷ x))
      ∙ start_of (names_of (volatile i.automaton.variables)) (volatile_values i.automaton.variables starts) x

  module _ (e : EntryTree) (fine : list_all spelled (field_names (position_fields e.positions)) ≡ true) (vs : List Val) where
    abbrev given : Env
    given = values_of (field_names (position_fields e.positions)) (parameter_values e.positions vs)

    pub up_stands : (s : Env) → environment (crashing n i starts) e vs s up_name ≡ s up_name
    up_stands s =
        behind (formal_values (crashing n i starts) up_name) (given up_name) (s up_name) formals_up
        (absent (field_names (position_fields e.positions)) (parameter_values e.positions vs) up_name (none_unspelled (field_names (position_fields e.positions)) _ fine))

    pub entry_matches : (s : HostState Env) (t : Env) → Corresponds i.automaton s t
        → Matches (variable_names i.automaton) s.up (environment (crashing n i starts) e vs t) (environment i e vs s.inner)
    entry_matches s t r = record {
      up = up_stands t ∙ r.up;
      agree = λ x k. ap (λ (o : Option Val). or_else o (or_else (given x) (t x))) (formals_same x k)
          ∙ ap (λ (o : Option Val). or_else (formal_values i x) (or_else (given x) o)) (sym (r.agree x k));
      present = λ x k. let w = r.present x k in present_at x w.0 w.1;
    }
      where
        present_at : (x : Name) (w : Val) → s.inner x ≡ Some w → (u : Val) × (environment i e vs s.inner x ≡ Some u)
        present_at x w is =
            let u = stands (formal_values i x) (given x) w in
            (u.0, ap (λ (o : Option Val). or_else (formal_values i x) (or_else (given x) o)) is ∙ u.1)
