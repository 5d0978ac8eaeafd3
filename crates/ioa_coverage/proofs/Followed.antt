-- Effects that are followed: what is left of statements and of loops, what they take, and what may be followed next.
use Rattle.std.proofs.Common.{◌≡◌, ◌≢◌, ◌++◌, ◌+◌, ℕ, Bool, true, false, IsTrue, List, [], ◌∷◌, Option, Some, None, not, ◌&&◌, ◌||◌, nat_le, nat_lt, option_and_then, OnOk, Result, Ok, Err, ap, cond, length, map, refl, subst, sym, ◌∙◌}
use Rattle.std.specs.Option.{option_map_or}
use Rattle.std.specs.Str.{bytes_eq}
use Rattle.std.proofs.lemmas.Bool.{and_from, and_parts}
use Rattle.std.proofs.lemmas.List.{append-nil, length-set}
use Rattle.std.proofs.lemmas.Simd.{map-map}
use Rattle.std.proofs.lemmas.Slice.Eq.{bytes_eq-Decides}
use Rattle.ioa_arithmetic.specs.declared.arithmetic.Fault.{Fault}
use Rattle.ioa_value.specs.Actions.{Name}
use Rattle.ioa_value.specs.Operators.{IsTypedAnswer, faults, gives}
use Rattle.ioa_value.specs.Plain.{Val, Vals, count, items, more as one_item, truth}
use Rattle.ioa_value.specs.Table.{AreTypes, Shape, Table, contains, fields, item_of, item_type, names, numbers, sequence, shape_at, truths, type_named}
use Rattle.ioa_value.specs.Typing.{HasType, is_of, items_are}
use Rattle.ioa_value.specs.declared.limits.TheConstants.{LIMITS}
use Rattle.ioa_value.proofs.NameLemmas.{not_true, outside_both}
use Rattle.ioa_value.proofs.TypingLemmas.{is_sequence, is_truth}
use Rattle.ioa_tree.specs.Answers.{HasValueOf, IsTypedOutcome, Suits}
use Rattle.ioa_tree.specs.Instances.{field_names, variable_names}
use Rattle.ioa_tree.specs.Invariants.{is_true}
use Rattle.ioa_tree.specs.Meaning.{Env, Outcome, assigned, becomes, breaks, chosen, does, eff, looped, nowhere, picks, then_do, turns, val, with_name, without}
use Rattle.ioa_tree.specs.Tree.{Arms, AutomatonTree, EntryTree, Expr, FieldTree, Stmt, Stmts, arm, assign, choose, each, seq, stop}
use Rattle.ioa_tree.specs.WellFormed.{Context, arms_fine, context_of, has_ty, held, item_in, local_names, parameter_names, position_fields, scope, scope_in, stmt_fine, stmts_fine, taken, type_in, type_of, variable_fields}
use Rattle.ioa_tree.proofs.EffectTyped.{some_type, stmts_typed}
use Rattle.ioa_tree.proofs.ValTyped.{val_typed}
use Rattle.ioa_coverage.specs.Following.{AreApart, MayBy, MayFollow, MayFollowAll, items_in, left, one_more, turned, with_marks}
use Rattle.ioa_coverage.specs.Known.{IsTypedIn}
use Rattle.ioa_coverage.specs.Taken.{by_condition, by_items, marks, marks_in, marks_of_arms, marks_of_turns, places, places_in, then_marks}

-- ---- what an answer leaves, where it is no fault

pub only_left : {X : Type 0} (r : Result X Fault) (env : Env) → ((f : Fault) → r ≡ Err f → ⊥) → becomes env ≡ left r env
only_left (Ok u) env other = refl
only_left (Err f) env other = absurd (other f refl)

pub only_ok : {X : Type 0} (r : Result X Fault) (P : Type 0) → ((f : Fault) → r ≡ Err f → ⊥) → OnOk r P → P
only_ok (Ok u) P other h = h
only_ok (Err f) P other h = absurd (other f refl)

-- ---- counts

pub with_marks_append : (cs ms ns : List ℕ) → with_marks cs (ms ++ ns) ≡ with_marks (with_marks cs ms) ns
with_marks_append cs [] ns = refl
with_marks_append cs (m ∷ ms) ns = with_marks_append (one_more cs m) ms ns

pub as_long : (cs ms : List ℕ) → length (with_marks cs ms) ≡ length cs
as_long cs [] = refl
as_long cs (m ∷ ms) = as_long (one_more cs m) ms ∙ length-set cs m _

-- ---- statements in sequence

module _ (types : Table) (s : Stmt) (rest : Stmts) (env : Env) where
  pub goes_on : (next : Env) → becomes next ≡ does types s env → eff types (seq s rest) env ≡ eff types rest next
  goes_on next e = ap (λ o. then_do o (λ k. eff types rest k)) (sym e)

  pub stops : (f : Fault) → breaks f ≡ does types s env → eff types (seq s rest) env ≡ breaks f
  stops f e = ap (λ o. then_do o (λ k. eff types rest k)) (sym e)

  pub counts_on : (cs : List ℕ) (n : ℕ) (next : Env) → becomes next ≡ does types s env
      → with_marks cs (marks_in types n (seq s rest) env) ≡ with_marks (with_marks cs (marks types n s env)) (marks_in types (n + places s) rest next)
  counts_on cs n next e =
      ap (λ o. with_marks cs (marks types n s env ++ then_marks o (λ k. marks_in types (n + places s) rest k))) (sym e)
      ∙ with_marks_append cs (marks types n s env) (marks_in types (n + places s) rest next)

  pub counts_stop : (cs : List ℕ) (n : ℕ) (f : Fault) → breaks f ≡ does types s env → with_marks cs (marks_in types n (seq s rest) env) ≡ with_marks cs (marks types n s env)
  counts_stop cs n f e =
      ap (λ o. with_marks cs (marks types n s env ++ then_marks o (λ k. marks_in types (n + places s) rest k))) (sym e) ∙ ap (with_marks cs) (append-nil (marks types n s env))

-- ---- what may be followed

abbrev S : (types : Table) → List Name → AutomatonTree → EntryTree → Context → Context
S types globals a e loops = scope_in types types globals a e loops

module _ (types : Table) (declared : AreTypes types) where
  -- an outcome that goes on unchanged is as typed
  as_typed : (c : Context) (o : Outcome) → IsTypedOutcome types c (then_do o (λ k. becomes k)) → IsTypedOutcome types c o
  as_typed c (becomes k) h = h
  as_typed c (breaks f) h = tt
  as_typed c nowhere h = absurd h

  one_typed : (s : Stmt) (env : Env) (may : MayFollow types env s) → IsTypedOutcome types (S types may.globals may.automaton may.entry may.loops) (does types s env)
  one_typed s env may =
      as_typed (S types may.globals may.automaton may.entry may.loops) (does types s env)
      (stmts_typed types declared may.globals may.automaton may.entry may.loops (seq s stop) env may.apart
      (and_from (stmt_fine types types may.globals may.automaton may.entry may.loops s) true may.fine refl) may.suits)

  pub first_may : (s : Stmt) (rest : Stmts) (env : Env) → MayFollowAll types env (seq s rest) → MayFollow types env s
  first_may s rest env may = record {
    globals = may.globals;
    automaton = may.automaton;
    entry = may.entry;
    loops = may.loops;
    apart = may.apart;
    fine = (and_parts (stmt_fine types types may.globals may.automaton may.entry may.loops s) (stmts_fine types types may.globals may.automaton may.entry may.loops rest) may.fine).0;
    suits = may.suits;
  }

  pub rest_may : (s : Stmt) (rest : Stmts) (env next : Env) → MayFollowAll types env (seq s rest) → becomes next ≡ does types s env → MayFollowAll types next rest
  unfolding first_may
  rest_may s rest env next may e =
      let c = S types may.globals may.automaton may.entry may.loops in
      let after : IsTypedOutcome types c (becomes next) = subst (IsTypedOutcome types c) (sym e) (one_typed s env (first_may s rest env may)) in
      record {
        globals = may.globals;
        automaton = may.automaton;
        entry = may.entry;
        loops = may.loops;
        apart = may.apart;
        fine = (and_parts (stmt_fine types types may.globals may.automaton may.entry may.loops s) (stmts_fine types types may.globals may.automaton may.entry may.loops rest) may.fine).1;
        suits = after;
      }

  -- ---- assignments

  pub value_may : (x : Name) (e : Expr) (env : Env) → MayFollow types env (assign x e) → IsTypedIn types env e
  value_may x e env may = go (type_in (context_of types (variable_fields may.automaton)) x) may.fine
    where
      go : (o : Option ℕ) → option_map_or (λ ty. has_ty types types (S types may.globals may.automaton may.entry may.loops) e ty) o false ≡ true → IsTypedIn types env e
      go None k = absurd (cc)
      go (Some ty) k =
          (S types may.globals may.automaton may.entry may.loops, may.suits, (ty, some_type (type_of types types (S types may.globals may.automaton may.entry may.loops) e) ty k))

  stands_for : (c : Context) (x : Name) (env : Env) (v : Val) (old : Option Val) → IsTypedOutcome types c (assigned x env (gives v) old) → old ≢ None
  stands_for c x env v (Some w) h = λ e. cc
  stands_for c x env v None h = absurd h

  -- what is assigned to stands for something
  pub assigned_to : (x : Name) (e : Expr) (env : Env) (v : Val) → MayFollow types env (assign x e) → gives v ≡ val types e env → env x ≢ None
  assigned_to x e env v may is =
      let c = S types may.globals may.automaton may.entry may.loops in
      stands_for c x env v (env x) (subst (λ a. IsTypedOutcome types c (assigned x env a (env x))) (sym is) (one_typed (assign x e) env may))

-- ---- what an assignment leaves

replaced : (x : Name) (env : Env) (v : Val) (old : Option Val) → old ≢ None → assigned x env (gives v) old ≡ becomes (with_name env x v)
replaced x env v (Some w) some = refl
replaced x env v None some = absurd (some refl)

pub assigns : (types : Table) (x : Name) (e : Expr) (env next : Env) (v : Val) → gives v ≡ val types e env → env x ≢ None → next ≡ with_name env x v → becomes next ≡ does types (assign x e) env
assigns types x e env next v is some leaves = ap becomes leaves ∙ sym (replaced x env v (env x) some) ∙ ap (λ a. assigned x env a (env x)) is

pub assigns_not : (types : Table) (x : Name) (e : Expr) (env : Env) (f : Fault) → faults f ≡ val types e env → breaks f ≡ does types (assign x e) env
assigns_not types x e env f is = ap (λ a. assigned x env a (env x)) is

-- ---- choices

abbrev pub MayChoose : Table → Env → Arms → Type 0
MayChoose types env arms = MayBy types (λ globals a e loops. arms_fine types types globals a e loops arms) env

-- what a condition gives is a truth value
module _ (types : Table) (c : Expr) (ss : Stmts) (rest : Arms) (env : Env) (v : Val) (is : gives v ≡ val types c env) where
  pub arm_picks : (otherwise : Outcome) → v ≡ truth true → picks types (arm c ss rest) env otherwise ≡ eff types ss env
  arm_picks otherwise t = ap (λ a. chosen a (eff types ss env) (picks types rest env otherwise)) (sym is ∙ ap gives t)

  pub arm_passes : (otherwise : Outcome) → v ≡ truth false → picks types (arm c ss rest) env otherwise ≡ picks types rest env otherwise
  arm_passes otherwise t = ap (λ a. chosen a (eff types ss env) (picks types rest env otherwise)) (sym is ∙ ap gives t)

  pub arm_marks : (n : ℕ) (otherwise : ℕ → List ℕ) → v ≡ truth true → marks_of_arms types n (arm c ss rest) env otherwise ≡ n ∷ marks_in types (n + 1) ss env
  arm_marks n otherwise t =
      ap (λ a. by_condition a (n ∷ marks_in types (n + 1) ss env) (marks_of_arms types (n + 1 + places_in ss) rest env otherwise)) (sym is ∙ ap gives t)

  pub arm_unmarked : (n : ℕ) (otherwise : ℕ → List ℕ) → v ≡ truth false
      → marks_of_arms types n (arm c ss rest) env otherwise ≡ marks_of_arms types (n + 1 + places_in ss) rest env otherwise
  arm_unmarked n otherwise t =
      ap (λ a. by_condition a (n ∷ marks_in types (n + 1) ss env) (marks_of_arms types (n + 1 + places_in ss) rest env otherwise)) (sym is ∙ ap gives t)

module _ (types : Table) (c : Expr) (ss : Stmts) (rest : Arms) (env : Env) (f : Fault) (is : faults f ≡ val types c env) where
  pub arm_faults : (otherwise : Outcome) → breaks f ≡ picks types (arm c ss rest) env otherwise
  arm_faults otherwise = ap (λ a. chosen a (eff types ss env) (picks types rest env otherwise)) is

  pub arm_none : (n : ℕ) (otherwise : ℕ → List ℕ) → marks_of_arms types n (arm c ss rest) env otherwise ≡ []
  arm_none n otherwise =
      ap (λ a. by_condition a (n ∷ marks_in types (n + 1) ss env) (marks_of_arms types (n + 1 + places_in ss) rest env otherwise)) (sym is)

module _ (types : Table) (declared : AreTypes types) where
  pub arms_may : (arms : Arms) (others : Stmts) (env : Env) → MayFollow types env (choose arms others) → MayChoose types env arms
  arms_may arms others env may = record {
    globals = may.globals;
    automaton = may.automaton;
    entry = may.entry;
    loops = may.loops;
    apart = may.apart;
    fine = (and_parts (arms_fine types types may.globals may.automaton may.entry may.loops arms) (stmts_fine types types may.globals may.automaton may.entry may.loops others) may.fine).0;
    suits = may.suits;
  }

  pub others_may : (arms : Arms) (others : Stmts) (env : Env) → MayFollow types env (choose arms others) → MayFollowAll types env others
  others_may arms others env may = record {
    globals = may.globals;
    automaton = may.automaton;
    entry = may.entry;
    loops = may.loops;
    apart = may.apart;
    fine = (and_parts (arms_fine types types may.globals may.automaton may.entry may.loops arms) (stmts_fine types types may.globals may.automaton may.entry may.loops others) may.fine).1;
    suits = may.suits;
  }

  module _ (c : Expr) (ss : Stmts) (rest : Arms) (env : Env) (may : MayChoose types env (arm c ss rest)) where
    abbrev C : Context
    C = S types may.globals may.automaton may.entry may.loops

    abbrev own_fine : Bool
    own_fine = stmts_fine types types may.globals may.automaton may.entry may.loops ss

    abbrev rest_fine : Bool
    rest_fine = arms_fine types types may.globals may.automaton may.entry may.loops rest

    condition_is : type_of types types C c ≡ Some 0
    condition_is = some_type (type_of types types C c) 0 (and_parts (has_ty types types C c 0) (own_fine && rest_fine) may.fine).0

    pub condition_may : IsTypedIn types env c
    condition_may = (C, may.suits, (0, condition_is))

    pub arm_may : MayFollowAll types env ss
    arm_may = record {
      globals = may.globals;
      automaton = may.automaton;
      entry = may.entry;
      loops = may.loops;
      apart = may.apart;
      fine = (and_parts own_fine rest_fine (and_parts (has_ty types types C c 0) (own_fine && rest_fine) may.fine).1).0;
      suits = may.suits;
    }

    pub more_may : MayChoose types env rest
    more_may = record {
      globals = may.globals;
      automaton = may.automaton;
      entry = may.entry;
      loops = may.loops;
      apart = may.apart;
      fine = (and_parts own_fine rest_fine (and_parts (has_ty types types C c 0) (own_fine && rest_fine) may.fine).1).1;
      suits = may.suits;
    }

    -- its value is a truth value, and which one is told
    pub condition_told : (v : Val) → gives v ≡ val types c env → v ≡ truth (is_true (gives v))
    condition_told v is =
        let typed : IsTypedAnswer types 0 (gives v) = subst (IsTypedAnswer types 0) (sym is) (val_typed types declared C env c 0 may.suits condition_is) in
        let t = is_truth types declared v typed in
        t.1 ∙ ap truth (sym (ap (λ w. is_true (gives w)) t.1))

-- where no condition is true
pub no_others : (types : Table) (others : Stmts) (env : Env) → others ≡ stop → becomes env ≡ eff types others env
no_others types others env e = sym (ap (λ ss. eff types ss env) e)

-- ---- loops

-- what a turn leaves is what the next begins with
turn_goes : (o : Outcome) (f : Env → Env) (next : Env) (go : Env → Outcome) → becomes next ≡ then_do o (λ k. becomes (f k)) → then_do o (λ k. go (f k)) ≡ go next
turn_goes (becomes k) f next go e = let same : next ≡ f k = cc in ap go (sym same)
turn_goes (breaks g) f next go e = absurd (cc)
turn_goes nowhere f next go e = absurd (cc)

turn_counts : (o : Outcome) (f : Env → Env) (next : Env) (go : Env → List ℕ) → becomes next ≡ then_do o (λ k. becomes (f k)) → then_marks o (λ k. go (f k)) ≡ go next
turn_counts (becomes k) f next go e = let same : next ≡ f k = cc in ap go (sym same)
turn_counts (breaks g) f next go e = absurd (cc)
turn_counts nowhere f next go e = absurd (cc)

turn_stops : (o : Outcome) (f : Env → Env) (g : Fault) → breaks g ≡ then_do o (λ k. becomes (f k)) → breaks g ≡ o
turn_stops (becomes k) f g e = absurd (cc)
turn_stops (breaks h) f g e = e
turn_stops nowhere f g e = absurd (cc)

module _ (types : Table) (ss : Stmts) (x : Name) (v : Val) (vs : Vals) (env : Env) where
  pub turns_on : (next : Env) → becomes next ≡ turned (eff types ss) x v env → turns (eff types ss) x (one_item v vs) env ≡ turns (eff types ss) x vs next
  turns_on next e = turn_goes (eff types ss (with_name env x v)) (without x env) next (λ k. turns (eff types ss) x vs k) e

  pub turns_stop : (f : Fault) → breaks f ≡ turned (eff types ss) x v env → turns (eff types ss) x (one_item v vs) env ≡ breaks f
  turns_stop f e =
      ap (λ o. then_do o (λ k. turns (eff types ss) x vs (without x env k))) (sym (turn_stops (eff types ss (with_name env x v)) (without x env) f e))

  abbrev inner : ℕ → Env → List ℕ
  inner n k = marks_in types (n + 1) ss k

  pub turn_marks : (cs : List ℕ) (n : ℕ) (next : Env) → becomes next ≡ turned (eff types ss) x v env
      → with_marks cs (marks_of_turns (marks_in types (n + 1) ss) (eff types ss) n x (one_item v vs) env)
      ≡ with_marks (with_marks cs (n ∷ marks_in types (n + 1) ss (with_name env x v))) (marks_of_turns (marks_in types (n + 1) ss) (eff types ss) n x vs next)
  turn_marks cs n next e =
      ap (λ (ms : List ℕ). with_marks cs (n ∷ (inner n (with_name env x v) ++ ms)))
      (turn_counts (eff types ss (with_name env x v)) (without x env) next (λ k. marks_of_turns (marks_in types (n + 1) ss) (eff types ss) n x vs k) e)
      ∙ with_marks_append cs (n ∷ inner n (with_name env x v)) (marks_of_turns (marks_in types (n + 1) ss) (eff types ss) n x vs next)

  pub turn_marks_stop : (cs : List ℕ) (n : ℕ) (f : Fault) → breaks f ≡ turned (eff types ss) x v env
      → with_marks cs (marks_of_turns (marks_in types (n + 1) ss) (eff types ss) n x (one_item v vs) env) ≡ with_marks cs (n ∷ marks_in types (n + 1) ss (with_name env x v))
  turn_marks_stop cs n f e =
      ap (λ o. with_marks cs (n ∷ (inner n (with_name env x v) ++ then_marks o (λ k. marks_of_turns (marks_in types (n + 1) ss) (eff types ss) n x vs (without x env k)))))
      (sym (turn_stops (eff types ss (with_name env x v)) (without x env) f e)) ∙ ap (with_marks cs) (append-nil (n ∷ inner n (with_name env x v)))

-- what is of a sequence type is a sequence, and each item is of the type of its items
list_typed : (types : Table) → AreTypes types → (ty item : ℕ) (v : Val) → item_type types ty ≡ Some item → HasType types v ty
    → (vs : Vals) × (v ≡ items ty vs) × IsTrue (items_are types vs item)
list_typed types declared ty item v h k = go (shape_at types ty) refl h
  where
    go : (o : Option Shape) → shape_at types ty ≡ o → item_of o ≡ Some item → (vs : Vals) × (v ≡ items ty vs) × IsTrue (items_are types vs item)
    go (Some (sequence most of)) is h =
        let s = is_sequence types declared v ty most of k is in
        let parts = and_parts (nat_le (count s.0) most) (items_are types s.0 of) s.2 in
        let same : of ≡ item = cc in
        (s.0, s.1, ap (items_are types s.0) (sym same) ∙ parts.1)
    go (Some truths) is h = absurd (cc)
    go (Some numbers) is h = absurd (cc)
    go (Some (names ns)) is h = absurd (cc)
    go (Some (fields fs)) is h = absurd (cc)
    go None is h = absurd (cc)

-- ---- what may be looped: the turns for these items, in order

pub record MayLoop (types : Table) (x : Name) (ss : Stmts) (vs : Vals) (env : Env) : Type 0 where
  pub globals : List Name
  pub automaton : AutomatonTree
  pub entry : EntryTree
  pub loops : Context
  pub item : ℕ
  pub apart : AreApart types automaton loops
  pub fresh : contains (taken types types globals automaton entry loops) x ≡ false
  pub fine : stmts_fine types types globals automaton entry ((x, item) ∷ loops) ss ≡ true
  pub suits : Suits types (scope_in types types globals automaton entry loops) env
  pub typed : IsTrue (items_are types vs item)

-- a name that is none of these has no type
no_type : (c : Context) (x : Name) → contains (map (λ p. p.0) c) x ≡ false → type_in c x ≡ None
no_type [] x h = refl
no_type (p ∷ ps) x h = go (bytes_eq p.0 x) h (no_type ps x)
  where
    go : (b : Bool) → (b || contains (map (λ p. p.0) ps) x) ≡ false → (contains (map (λ p. p.0) ps) x ≡ false → type_in ps x ≡ None) → cond b (Some p.1) (type_in ps x) ≡ None
    go true h more = absurd (cc)
    go false h more = more h

no_field : (types : Table) (fs : List FieldTree) (x : Name) → contains (field_names fs) x ≡ false → type_in (context_of types fs) x ≡ None
no_field types [] x h = refl
no_field types (f ∷ fs) x h = go (bytes_eq f.name x) refl h (no_field types fs x)
  where
    known : (o : Option ℕ) → bytes_eq f.name x ≡ false → type_in (context_of types fs) x ≡ None
        → type_in (option_map_or (λ n. (f.name, n) ∷ []) o [] ++ context_of types fs) x ≡ None
    known (Some n) is rest = ap (λ b. cond b (Some n) (type_in (context_of types fs) x)) is ∙ rest
    known None is rest = rest

    go : (b : Bool) → bytes_eq f.name x ≡ b → (b || contains (field_names fs) x) ≡ false → (contains (field_names fs) x ≡ false → type_in (context_of types fs) x ≡ None)
        → type_in (context_of types (f ∷ fs)) x ≡ None
    go true is h more = absurd (cc)
    go false is h more = known (type_named types f.ty) is (more h)

no_type_in_both : (c d : Context) (x : Name) → type_in c x ≡ None → type_in d x ≡ None → type_in (c ++ d) x ≡ None
no_type_in_both [] d x h k = k
no_type_in_both (p ∷ ps) d x h k = go (bytes_eq p.0 x) h (λ q. no_type_in_both ps d x q k)
  where
    go : (b : Bool) → cond b (Some p.1) (type_in ps x) ≡ None → (type_in ps x ≡ None → type_in (ps ++ d) x ≡ None) → cond b (Some p.1) (type_in (ps ++ d) x) ≡ None
    go true h more = absurd (cc)
    go false h more = more h

-- a name that is taken by none of these
pub record IsOutside (types : Table) (globals : List Name) (a : AutomatonTree) (e : EntryTree) (loops : Context) (x : Name) : Type 0 where
  pub variables : type_in (context_of types (variable_fields a)) x ≡ None
  pub all : type_in (scope_in types types globals a e loops) x ≡ None

outside : (types : Table) (globals : List Name) (a : AutomatonTree) (e : EntryTree) (loops : Context) (x : Name) → contains (taken types types globals a e loops) x ≡ false
    → IsOutside types globals a e loops x
outside types globals a e loops x h =
    let l = outside_both (map (λ p. p.0) loops) (parameter_names e ++ (globals ++ local_names types types globals a)) x h in
    let r = outside_both (parameter_names e) (globals ++ local_names types types globals a) x l.1 in
    let g = outside_both globals (local_names types types globals a) x r.1 in
    let own = outside_both (field_names a.formals) (variable_names a) x g.1 in
    let names : field_names (variable_fields a) ≡ variable_names a = map-map (λ (f : FieldTree). f.name) (λ v. v.field) a.variables in
    let variables = no_field types (variable_fields a) x (ap (λ ns. contains ns x) names ∙ own.1) in
    let formals = no_field types a.formals x own.0 in
    let parameters = no_field types (position_fields e.positions) x r.0 in
    record {
      variables = variables;
      all = no_type_in_both loops (scope types types globals a e) x (no_type loops x l.0)
          (no_type_in_both (held types types globals a) (context_of types (position_fields e.positions)) x
          (no_type_in_both (context_of types (variable_fields a)) (context_of types a.formals) x variables formals) parameters);
    }

-- the name for a value of its type, and given back
bound_suits : (types : Table) (c : Context) (env : Env) (x : Name) (item : ℕ) (v : Val) → Suits types c env → HasType types v item → Suits types ((x, item) ∷ c) (with_name env x v)
bound_suits types c env x item v suits k = record { stands = λ y u h. there y u (bytes_eq x y) h; others = λ y h. none y (bytes_eq x y) h }
  where
    there : (y : Name) (u : ℕ) (b : Bool) → cond b (Some item) (type_in c y) ≡ Some u → HasValueOf types u (cond b (Some v) (env y))
    there y u true h = let same : item ≡ u = cc in subst (HasType types v) same k
    there y u false h = suits.stands y u h

    none : (y : Name) (b : Bool) → cond b (Some item) (type_in c y) ≡ None → cond b (Some v) (env y) ≡ None
    none y true h = absurd (cc)
    none y false h = suits.others y h

given_back : (types : Table) (c : Context) (env next : Env) (x : Name) (item : ℕ) → Suits types c env → Suits types ((x, item) ∷ c) next → Suits types c (without x env next)
given_back types c env next x item before suits = record { stands = λ y u h. there y u h (bytes_eq x y) (suits.stands y); others = λ y h. none y h (bytes_eq x y) (suits.others y) }
  where
    there : (y : Name) (u : ℕ) → type_in c y ≡ Some u → (b : Bool) → ((w : ℕ) → cond b (Some item) (type_in c y) ≡ Some w → HasValueOf types w (next y))
        → HasValueOf types u (cond b (env y) (next y))
    there y u h true k = before.stands y u h
    there y u h false k = k u h

    none : (y : Name) → type_in c y ≡ None → (b : Bool) → (cond b (Some item) (type_in c y) ≡ None → next y ≡ None) → cond b (env y) (next y) ≡ None
    none y h true k = before.others y h
    none y h false k = k h

-- a new name within the loops is none of a variable, either
still_apart : (types : Table) (globals : List Name) (a : AutomatonTree) (e : EntryTree) (loops : Context) (x : Name) (item : ℕ) → AreApart types a loops
    → contains (taken types types globals a e loops) x ≡ false → AreApart types a ((x, item) ∷ loops)
still_apart types globals a e loops x item h new y ty k = go (bytes_eq x y) refl
  where
    go : (b : Bool) → bytes_eq x y ≡ b → cond b (Some item) (type_in loops y) ≡ None
    go true is =
        let names : x ≡ y = (bytes_eq-Decides x y).0 is in
        let none : type_in (context_of types (variable_fields a)) y ≡ None = ap (type_in (context_of types (variable_fields a))) (sym names) ∙ (outside types globals a e loops x new).variables in
        absurd (cc)
    go false is = h y ty k

module _ (types : Table) (declared : AreTypes types) (x : Name) (ss : Stmts) where
  module _ (e : Expr) (env : Env) (may : MayFollow types env (each x e ss)) where
    abbrev E : Context
    E = S types may.globals may.automaton may.entry may.loops

    abbrev by_item : Option ℕ → Bool
    by_item o = option_map_or (λ item. stmts_fine types types may.globals may.automaton may.entry ((x, item) ∷ may.loops) ss) o false

    abbrev there : Bool
    there = by_item (item_in types types may.globals may.automaton may.entry may.loops e)

    abbrev few : Bool
    few = nat_lt (length may.loops) LIMITS.loops

    abbrev used : Bool
    used = contains (taken types types may.globals may.automaton may.entry may.loops) x

    outer : (not used ≡ true) × ((few && there) ≡ true)
    outer = and_parts (not used) (few && there) may.fine

    item_fine : there ≡ true
    item_fine = (and_parts few there outer.1).1

    has_type : (o : Option ℕ) → type_of types types E e ≡ o → by_item (option_and_then (item_type types) o) ≡ true → IsTypedIn types env e
    has_type (Some ty) q k = (E, may.suits, (ty, q))
    has_type None q k = absurd (cc)

    -- the sequence may be evaluated
    pub items_may : IsTypedIn types env e
    items_may = has_type (type_of types types E e) refl item_fine

    abbrev IsLooped : Val → Type 0
    IsLooped w = ((ty : ℕ) × (w ≡ items ty (items_in w))) × MayLoop types x ss (items_in w) env

    looped_over : (w : Val) → gives w ≡ val types e env → (ty item : ℕ) → type_of types types E e ≡ Some ty → item_type types ty ≡ Some item
        → stmts_fine types types may.globals may.automaton may.entry ((x, item) ∷ may.loops) ss ≡ true → IsLooped w
    looped_over w is ty item q shape k =
        let given : IsTypedAnswer types ty (gives w) = subst (IsTypedAnswer types ty) (sym is) (val_typed types declared E env e ty may.suits q) in
        let parts = list_typed types declared ty item w shape given in
        let same : parts.0 ≡ items_in w = sym (ap items_in parts.1) in (
          (ty, parts.1 ∙ ap (items ty) same),
          record {
            globals = may.globals;
            automaton = may.automaton;
            entry = may.entry;
            loops = may.loops;
            item = item;
            apart = may.apart;
            fresh = not_true used outer.0;
            fine = k;
            suits = may.suits;
            typed = subst (λ vs. IsTrue (items_are types vs item)) same parts.2;
          },
        )

    shaped : (w : Val) → gives w ≡ val types e env → (ty : ℕ) → type_of types types E e ≡ Some ty → (o : Option ℕ) → item_type types ty ≡ o → by_item o ≡ true → IsLooped w
    shaped w is ty q (Some item) shape k = looped_over w is ty item q shape k
    shaped w is ty q None shape k = absurd (cc)

    typed_over : (w : Val) → gives w ≡ val types e env → (o : Option ℕ) → type_of types types E e ≡ o → by_item (option_and_then (item_type types) o) ≡ true → IsLooped w
    typed_over w is (Some ty) q k = shaped w is ty q (item_type types ty) refl k
    typed_over w is None q k = absurd (cc)

    -- it gives the items of a sequence, which may be looped over
    pub loop_may : (w : Val) → gives w ≡ val types e env → IsLooped w
    loop_may w is = typed_over w is (type_of types types E e) refl item_fine

  -- the loop is its turns
  pub loop_does : (e : Expr) (env : Env) (w : Val) (ty : ℕ) (vs : Vals) → gives w ≡ val types e env → w ≡ items ty vs → does types (each x e ss) env ≡ turns (eff types ss) x vs env
  loop_does e env w ty vs is shape = ap (looped (eff types ss) x env) (sym is ∙ ap gives shape)

  pub loop_marks : (n : ℕ) (e : Expr) (env : Env) (w : Val) (ty : ℕ) (vs : Vals) → gives w ≡ val types e env → w ≡ items ty vs
      → marks types n (each x e ss) env ≡ marks_of_turns (marks_in types (n + 1) ss) (eff types ss) n x vs env
  loop_marks n e env w ty vs is shape = ap (λ a. by_items a (λ us. marks_of_turns (marks_in types (n + 1) ss) (eff types ss) n x us env)) (sym is ∙ ap gives shape)

  pub loop_faults : (e : Expr) (env : Env) (f : Fault) → faults f ≡ val types e env → breaks f ≡ does types (each x e ss) env
  loop_faults e env f is = ap (looped (eff types ss) x env) is

  pub loop_unmarked : (n : ℕ) (e : Expr) (env : Env) (f : Fault) → faults f ≡ val types e env → marks types n (each x e ss) env ≡ []
  loop_unmarked n e env f is = ap (λ a. by_items a (λ us. marks_of_turns (marks_in types (n + 1) ss) (eff types ss) n x us env)) (sym is)

  module _ (v : Val) (vs : Vals) (env : Env) (may : MayLoop types x ss (one_item v vs) env) where
    abbrev L : Context
    L = S types may.globals may.automaton may.entry may.loops

    its_items : IsTrue (is_of types v may.item) × IsTrue (items_are types vs may.item)
    its_items = and_parts (is_of types v may.item) (items_are types vs may.item) may.typed

    -- its name stands for nothing yet
    pub is_new : env x ≡ None
    is_new = may.suits.others x (outside types may.globals may.automaton may.entry may.loops x may.fresh).all

    pub turn_may : MayFollowAll types (with_name env x v) ss
    turn_may = record {
      globals = may.globals;
      automaton = may.automaton;
      entry = may.entry;
      loops = (x, may.item) ∷ may.loops;
      apart = still_apart types may.globals may.automaton may.entry may.loops x may.item may.apart may.fresh;
      fine = may.fine;
      suits = bound_suits types L env x may.item v may.suits its_items.0;
    }

    after : (o : Outcome) (next : Env) → IsTypedOutcome types ((x, may.item) ∷ L) o → becomes next ≡ then_do o (λ k. becomes (without x env k)) → Suits types L next
    after (becomes k) next typed e =
        let same : next ≡ without x env k = cc in
        subst (Suits types L) (sym same) (given_back types L env k x may.item may.suits typed)
    after (breaks f) next typed e = absurd (cc)
    after nowhere next typed e = absurd (cc)

    pub next_may : (next : Env) → becomes next ≡ turned (eff types ss) x v env → MayLoop types x ss vs next
    unfolding turn_may
    next_may next e = record {
      globals = may.globals;
      automaton = may.automaton;
      entry = may.entry;
      loops = may.loops;
      item = may.item;
      apart = may.apart;
      fresh = may.fresh;
      fine = may.fine;
      suits = after (eff types ss (with_name env x v)) next
          (stmts_typed types declared may.globals may.automaton may.entry ((x, may.item) ∷ may.loops) ss (with_name env x v) turn_may.apart may.fine turn_may.suits) e;
      typed = its_items.1;
    }
