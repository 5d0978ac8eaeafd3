-- The rewritten tree means the component that crashes and recovers.
use Rattle.std.proofs.Common.{◌≡◌, Bool, true, false, cond, List, [], ◌∷◌, ◌++◌, length, Option, Some, None, Result, Ok, Err, refl, sym, ap, subst, ◌∙◌, true≢false, codes}
use Rattle.std.specs.List.{list_all}
use Rattle.std.specs.Option.{option_map, option_map_or}
use Rattle.std.specs.Str.{bytes_eq}
use Rattle.std.proofs.lemmas.Bool.{and_parts, or_right, not_from_false}
use Rattle.std.proofs.lemmas.List.Folds.{list_any-append}
use Rattle.ioa_arithmetic.specs.declared.arithmetic.Fault.{Fault}
use Rattle.ioa_value.specs.Actions.{Name, Act}
use Rattle.ioa_value.specs.Plain.{Val, truth as truth_value}
use Rattle.ioa_value.specs.Operators.{gives}
use Rattle.ioa_value.specs.Table.{Table, contains}
use Rattle.ioa_value.proofs.NameLemmas.{not_true}
use Rattle.ioa_value.proofs.NamedLemmas.{not_given}
use Rattle.ioa_value.proofs.ItemLemmas.{find_both}
use Rattle.ioa_tree.specs.declared.tree.Infix.TheVariants.{And}
use Rattle.ioa_tree.specs.Tree.{Expr, Stmts, CrashTree, EntryTree, VariableTree, TransitionTree}
use Rattle.ioa_tree.specs.Names.{names_of_option, names_of_entry, names_of_transition}
use Rattle.ioa_tree.specs.Types.{constant, first_named}
use Rattle.ioa_tree.specs.Meaning.{Env, values_of, or_else, kept, with_name, then_value, value_of, combined, val, Outcome, becomes, breaks, nowhere, assigned, then_do, eff}
use Rattle.ioa_tree.specs.Components.{has, owns, is_local, is_kind}
use Rattle.ioa_tree.specs.Instances.{Instance, field_names, variable_names, formal_values, entry_has, entry_for, transition_for, position_fields, parameter_values, environment, truth_of, enabling, next_state, component_of, settled, start_value, start_values, with_value, all_values, state_of}
use Rattle.ioa_tree.specs.WellFormed.{entry_fine, is_input, parameter_names}
use Rattle.ioa_tree.specs.Likes.{AreLike}
use Rattle.ioa_tree.specs.Hosts.{HostState, host_state, when_ok, wrapped, reset_to}
use Rattle.ioa_tree.proofs.Agreement.{val_same, OutcomesLike, eff_like}
use Rattle.ioa_tree.proofs.FineParts.{entry_parts}
use Rattle.ioa_crash.specs.Rewriting.{spelled, up_name, start_name, up_variable, volatile, volatile_values, only_up, if_up, guarded, signal_entry, resets, recover_transition, rewritten, crashing, crashing_starts}
use Rattle.ioa_crash.specs.Crashes.{Corresponds, MayCrash, MeansCrash, RewritingMeansCrash}
use Rattle.ioa_crash.proofs.SpelledNames.{not_both, or_none, absent, known, appended, all_of, apart_from, unspelled, none_unspelled}
use Rattle.ioa_crash.proofs.SpelledTrees.{parameters_spelled, parts_spelled}
use Rattle.ioa_crash.proofs.RewrittenNames.{names_of, volatile_length, volatile_among, names_more, behind, Matches, matches_kept, matches_back, kept_up, kept_more, kept_at, kept_not, names, starts_length, formals_same, formals_start, up_stands, entry_matches}
use Rattle.ioa_crash.proofs.RewrittenEntries.{parts, local_kinds, crash_found, recover_found, others_found, found_kind, View, crashes, recovers, within, neither, view}
use Rattle.ioa_crash.proofs.ResetLemmas.{IsReset, resets_do, reset_is}

-- ---- preconditions

up_asks : (types : Table) (o : Option Expr) (m k : Env) (b : Bool) → m up_name ≡ Some (truth_value b) → list_all spelled (names_of_option o) ≡ true
    → ((x : Name) → spelled x ≡ true → m x ≡ k x) → enabling types (Some (only_up o)) m ≡ cond b (enabling types o k) (Ok false)
up_asks types None m k b u h g = ap (λ (o : Option Val). truth_of (value_of (or_else o (constant types up_name)))) u ∙ go b
  where
    go : (c : Bool) → ◌≡◌ {A = Result Bool Fault} (Ok c) (cond c (Ok true) (Ok false))
    go true = refl
    go false = refl
up_asks types (Some e) m k b u h g =
    ap (λ (o : Option Val). truth_of (then_value (value_of (or_else o (constant types up_name))) (λ x. combined types And x (val types e m)))) u ∙ go b
  where
    go : (c : Bool) → truth_of (combined types And (truth_value c) (val types e m)) ≡ cond c (truth_of (val types e k)) (Ok false)
    go true = ap truth_of (val_same types spelled m k g e h)
    go false = refl

same_twice : (b : Bool) → ◌≡◌ {A = Result Bool Fault} (cond b (Ok false) (Ok false)) (Ok false)
same_twice true = refl
same_twice false = refl

-- ---- effects

then_becomes : (o : Outcome) → then_do o (λ next. becomes next) ≡ o
then_becomes (becomes m) = refl
then_becomes (breaks f) = refl
then_becomes nowhere = refl

up_does : (types : Table) (ss : Stmts) (m : Env) → m up_name ≡ Some (truth_value true) → eff types (if_up ss) m ≡ eff types ss m
up_does types ss m u = rw u (then_becomes (eff types ss m))

down_does : (types : Table) (ss : Stmts) (m : Env) → m up_name ≡ Some (truth_value false) → eff types (if_up ss) m ≡ becomes m
down_does types ss m u = rw u refl

-- ---- start values

all_same : (f g : VariableTree → Result Val Fault) (p : VariableTree → Bool) (vs : List VariableTree) → list_all p vs ≡ true
    → ((v : VariableTree) → p v ≡ true → f v ≡ g v) → all_values f vs ≡ all_values g vs
all_same f g p [] h k = refl
all_same f g p (v ∷ vs) h k =
    let c = and_parts (p v) (list_all p vs) h in
    ap (λ r. with_value r (all_values f vs)) (k v c.0) ∙ ap (with_value (g v)) (all_same f g p vs c.1 k)

one_more : (f : VariableTree → Result Val Fault) (vs : List VariableTree) (u : VariableTree) (ws : List Val) (w : Val)
    → all_values f vs ≡ Ok ws → f u ≡ Ok w → all_values f (vs ++ u ∷ []) ≡ Ok (ws ++ w ∷ [])
one_more f [] u ws w h k = let e : [] ≡ ws = cc in subst (λ us. with_value (f u) (Ok []) ≡ Ok (us ++ w ∷ [])) e (ap (λ r. with_value r (Ok [])) k)
one_more f (v ∷ vs) u ws w h k = go (f v) (all_values f vs) h (λ us q. one_more f vs u us w q k)
  where
    go : (r : Result Val Fault) (q : Result (List Val) Fault) → with_value r q ≡ Ok ws
        → ((us : List Val) → q ≡ Ok us → all_values f (vs ++ u ∷ []) ≡ Ok (us ++ w ∷ [])) → with_value r (all_values f (vs ++ u ∷ [])) ≡ Ok (ws ++ w ∷ [])
    go (Ok x) (Ok us) e more = let same : x ∷ us ≡ ws = cc in subst (λ zs. with_value (Ok x) (all_values f (vs ++ u ∷ [])) ≡ Ok (zs ++ w ∷ [])) same (ap (with_value (Ok x)) (more us refl))
    go (Ok x) (Err y) e more = absurd (cc)
    go (Err y) q e more = absurd (cc)

-- what an entry's transition asks and does
abbrev asks : Instance → List Val → Env → EntryTree → Result Bool Fault
asks i vs s e = option_map_or (λ t. enabling i.types t.pre (environment i e vs s)) (transition_for i.automaton e) (Ok false)

abbrev makes : Instance → List Val → Env → EntryTree → Result Env Fault
makes i vs s e = option_map_or (λ t. next_state i.automaton s (eff i.types t.effect (environment i e vs s))) (transition_for i.automaton e) (Ok s)

module _ (n : CrashTree) (i : Instance) (starts : List Val) (h : MayCrash n i starts) where
  variable_spelled : (x : Name) → contains (variable_names i.automaton) x ≡ true → spelled x ≡ true
  variable_spelled x k = all_of spelled (variable_names i.automaton) x (names n i starts h).variables k

  no_formal : (x : Name) → contains (variable_names i.automaton) x ≡ true → contains (field_names i.automaton.formals) x ≡ false
  no_formal x k = not_given (field_names i.automaton.formals) (variable_names i.automaton) x (parts n i starts h).distinct_names k

  -- what an environment leaves of the variables, and of `#up`
  made : (b : Bool) (inner m : Env) → m up_name ≡ Some (truth_value b)
      → ((x : Name) → contains (variable_names i.automaton) x ≡ true → inner x ≡ m x)
      → ((x : Name) → contains (variable_names i.automaton) x ≡ true → (v : Val) × (inner x ≡ Some v))
      → ((x : Name) → contains (variable_names i.automaton) x ≡ false → inner x ≡ None)
      → Corresponds i.automaton (host_state b inner) (kept (variable_names (rewritten n i.automaton)) m)
  made b inner m up same there none = record {
    up = ap (λ (ns : List Name). kept ns m up_name) (names_more i.automaton.variables) ∙ kept_up (variable_names i.automaton) m ∙ up;
    agree = λ x s. go x s (contains (variable_names i.automaton) x) refl;
    present = there;
    others = λ x k. none x (not_true (contains (variable_names i.automaton) x) k);
  }
    where
      left : (x : Name) → spelled x ≡ true → kept (variable_names (rewritten n i.automaton)) m x ≡ kept (variable_names i.automaton) m x
      left x s = ap (λ (ns : List Name). kept ns m x) (names_more i.automaton.variables) ∙ kept_more (variable_names i.automaton) m x s

      go : (x : Name) → spelled x ≡ true → (b : Bool) → contains (variable_names i.automaton) x ≡ b → inner x ≡ kept (variable_names (rewritten n i.automaton)) m x
      go x s true e = same x e ∙ sym (left x s ∙ kept_at (variable_names i.automaton) m x e)
      go x s false e = none x e ∙ sym (left x s ∙ kept_not (variable_names i.automaton) m x e)

  keeps : (b : Bool) (m k : Env) → Matches (variable_names i.automaton) b m k
      → Corresponds i.automaton (host_state b (kept (variable_names i.automaton) k)) (kept (variable_names (rewritten n i.automaton)) m)
  keeps b m k r =
      made b (kept (variable_names i.automaton) k) m r.up
      (λ x c. kept_at (variable_names i.automaton) k x c ∙ sym (r.agree x (variable_spelled x c)))
      (λ x c. let w = r.present x c in (w.0, kept_at (variable_names i.automaton) k x c ∙ w.1))
      (λ x c. kept_not (variable_names i.automaton) k x c)

  -- a variable of the state is what it is in the environment
  variable_stands : (e : EntryTree) (vs : List Val) (t : Env) (x : Name) → contains (variable_names i.automaton) x ≡ true
      → values_of (field_names (position_fields e.positions)) (parameter_values e.positions vs) x ≡ None → environment (crashing n i starts) e vs t x ≡ t x
  variable_stands e vs t x c none =
      behind (formal_values (crashing n i starts) x) (values_of (field_names (position_fields e.positions)) (parameter_values e.positions vs) x) (t x)
      (formals_same n i starts h x (variable_spelled x c) ∙ absent (field_names i.automaton.formals) i.arguments x (no_formal x c)) none

  -- ---- an action of the original

  module _ (a : Act) (e : EntryTree) (q : entry_for i a ≡ Some e) (no_crash : bytes_eq n.crash e.name ≡ false) (no_recover : bytes_eq n.recover e.name ≡ false)
      (s : HostState Env) (t : Env) (k : Corresponds i.automaton s t) where
    fine : list_all spelled (field_names (position_fields e.positions)) ≡ true
    fine = parameters_spelled e (find_both (entry_has i a) (λ d. list_all spelled (names_of_entry d)) i.automaton.entries e q (names n i starts h).entries).1

    no_parameter : (x : Name) → contains (variable_names i.automaton) x ≡ true → values_of (field_names (position_fields e.positions)) (parameter_values e.positions a.vals) x ≡ None
    no_parameter x c =
        let own = entry_parts i.types i.types h.automaton.0 i.automaton e (find_both (entry_has i a) (entry_fine i.types i.types h.automaton.0 i.automaton) i.automaton.entries e q (parts n i starts h).entries).1 in
        let local = field_names i.automaton.formals ++ variable_names i.automaton in
        let inner : contains local x ≡ true = list_any-append (λ y. bytes_eq y x) (field_names i.automaton.formals) (variable_names i.automaton) ∙ or_right (contains (field_names i.automaton.formals) x) (contains (variable_names i.automaton) x) c in
        let there : contains (h.automaton.0 ++ local) x ≡ true = list_any-append (λ y. bytes_eq y x) h.automaton.0 local ∙ or_right (contains h.automaton.0 x) (contains local x) inner in
        absent (field_names (position_fields e.positions)) (parameter_values e.positions a.vals) x (apart_from (parameter_names e) (h.automaton.0 ++ local) x own.apart_names there)

    matches : Matches (variable_names i.automaton) s.up (environment (crashing n i starts) e a.vals t) (environment i e a.vals s.inner)
    matches = entry_matches n i starts h e fine a.vals s t k

    spelled_parts : (u : TransitionTree) → transition_for i.automaton e ≡ Some u → list_all spelled (names_of_transition u) ≡ true
    spelled_parts u f = (find_both (λ v. bytes_eq v.name e.name) (λ v. list_all spelled (names_of_transition v)) i.automaton.transitions u f (names n i starts h).transitions).1

    asks_like : is_local (Some e.kind) ≡ true → asks (crashing n i starts) a.vals t e ≡ cond s.up (asks i a.vals s.inner e) (Ok false)
    asks_like local =
        ap (λ o. option_map_or (λ u. enabling i.types u.pre (environment (crashing n i starts) e a.vals t)) o (Ok false)) (others_found n i starts h e no_crash no_recover)
        ∙ go (transition_for i.automaton e) refl
      where
        go : (o : Option TransitionTree) → transition_for i.automaton e ≡ o
            → option_map_or (λ u. enabling i.types u.pre (environment (crashing n i starts) e a.vals t)) (option_map guarded o) (Ok false)
            ≡ cond s.up (option_map_or (λ u. enabling i.types u.pre (environment i e a.vals s.inner)) o (Ok false)) (Ok false)
        go None z = sym (same_twice s.up)
        go (Some u) z =
            let no_input : is_input u.kind ≡ false = local_kinds e.kind u.kind (found_kind n i starts h a e u q z) local in
            ap (λ b. enabling i.types (cond b u.pre (Some (only_up u.pre))) (environment (crashing n i starts) e a.vals t)) no_input
            ∙ up_asks i.types u.pre (environment (crashing n i starts) e a.vals t) (environment i e a.vals s.inner) s.up matches.up (parts_spelled u (spelled_parts u z)).pre matches.agree

    still : s.up ≡ true → Corresponds i.automaton (host_state true s.inner) t
    still up = record { up = k.up ∙ ap (λ (b : Bool). Some (truth_value b)) up; agree = k.agree; present = k.present; others = k.others }

    ends_like : s.up ≡ true → (o p : Outcome) → OutcomesLike (Matches (variable_names i.automaton) s.up) o p
        → AreLike (Corresponds i.automaton) (when_ok (host_state true) (next_state i.automaton s.inner p)) (next_state (rewritten n i.automaton) t o)
    ends_like up (becomes m) (becomes l) r =
        subst (λ (b : Bool). Corresponds i.automaton (host_state b (kept (variable_names i.automaton) l)) (kept (variable_names (rewritten n i.automaton)) m)) up (keeps s.up m l r)
    ends_like up (becomes m) (breaks g) r = absurd r
    ends_like up (becomes m) nowhere r = absurd r
    ends_like up (breaks f) (becomes l) r = absurd r
    ends_like up (breaks f) (breaks g) r = sym r
    ends_like up (breaks f) nowhere r = absurd r
    ends_like up nowhere (becomes l) r = absurd r
    ends_like up nowhere (breaks g) r = absurd r
    ends_like up nowhere nowhere r = still up

    -- what the rewritten transition does, by what stands for it
    abbrev does_then : Option TransitionTree → Result Env Fault
    does_then o = option_map_or (λ u. next_state (rewritten n i.automaton) t (eff i.types u.effect (environment (crashing n i starts) e a.vals t))) o (Ok t)

    makes_is : makes (crashing n i starts) a.vals t e ≡ does_then (option_map guarded (transition_for i.automaton e))
    makes_is = ap does_then (others_found n i starts h e no_crash no_recover)

    makes_up : s.up ≡ true → AreLike (Corresponds i.automaton) (when_ok (host_state true) (makes i a.vals s.inner e)) (makes (crashing n i starts) a.vals t e)
    makes_up up =
        subst (λ (r : Result Env Fault). AreLike (Corresponds i.automaton) (when_ok (host_state true) (makes i a.vals s.inner e)) r) (sym makes_is) (go (transition_for i.automaton e) refl)
      where
        go : (o : Option TransitionTree) → transition_for i.automaton e ≡ o
            → AreLike (Corresponds i.automaton)
            (when_ok (host_state true) (option_map_or (λ u. next_state i.automaton s.inner (eff i.types u.effect (environment i e a.vals s.inner))) o (Ok s.inner)))
            (does_then (option_map guarded o))
        go None z = still up
        go (Some u) z =
            let m : Env = environment (crashing n i starts) e a.vals t in
            let l : Env = environment i e a.vals s.inner in
            subst (λ (o : Outcome). AreLike (Corresponds i.automaton) (when_ok (host_state true) (next_state i.automaton s.inner (eff i.types u.effect l))) (next_state (rewritten n i.automaton) t o))
            (sym (up_does i.types u.effect m (matches.up ∙ ap (λ (b : Bool). Some (truth_value b)) up)))
            (ends_like up (eff i.types u.effect m) (eff i.types u.effect l)
            (eff_like i.types spelled (Matches (variable_names i.automaton) s.up) (λ v w r. r.agree) (matches_kept (variable_names i.automaton) s.up) (matches_back (variable_names i.automaton) s.up)
            u.effect m l (parts_spelled u (spelled_parts u z)).effect matches))

    makes_down : s.up ≡ false → AreLike (Corresponds i.automaton) (Ok s) (makes (crashing n i starts) a.vals t e)
    makes_down down = subst (λ (r : Result Env Fault). AreLike (Corresponds i.automaton) (Ok s) r) (sym makes_is) (go (transition_for i.automaton e))
      where
        go : (o : Option TransitionTree) → AreLike (Corresponds i.automaton) (Ok s) (does_then (option_map guarded o))
        go None = k
        go (Some u) =
            let m : Env = environment (crashing n i starts) e a.vals t in
            subst (λ (o : Outcome). AreLike (Corresponds i.automaton) (Ok s) (next_state (rewritten n i.automaton) t o))
            (sym (down_does i.types u.effect m (matches.up ∙ ap (λ (b : Bool). Some (truth_value b)) down)))
            (made s.up s.inner m matches.up
            (λ x c. k.agree x (variable_spelled x c) ∙ sym (variable_stands e a.vals t x c (no_parameter x c)))
            k.present (λ x c. k.others x (not_from_false (contains (variable_names i.automaton) x) c)))

    makes_like : AreLike (Corresponds i.automaton) (cond s.up (when_ok (host_state true) (makes i a.vals s.inner e)) (Ok s)) (makes (crashing n i starts) a.vals t e)
    makes_like = go s.up refl
      where
        go : (b : Bool) → s.up ≡ b → AreLike (Corresponds i.automaton) (cond b (when_ok (host_state true) (makes i a.vals s.inner e)) (Ok s)) (makes (crashing n i starts) a.vals t e)
        go true up = makes_up up
        go false down = makes_down down

  -- ---- crash and recover

  abbrev volatile_names : List Name
  volatile_names = names_of (volatile i.automaton.variables)

  abbrev volatile_starts : List Val
  volatile_starts = volatile_values i.automaton.variables starts

  volatile_fit : length volatile_names ≡ length volatile_starts
  volatile_fit = volatile_length i.automaton.variables starts (starts_length n i starts h)

  module _ (vs : List Val) (s : HostState Env) (t : Env) (k : Corresponds i.automaton s t) where
    abbrev struck : Env
    struck = environment (crashing n i starts) (signal_entry n.crash) vs t

    reset : (l : Env) × (eff i.types (resets (volatile i.automaton.variables)) struck ≡ becomes l) × IsReset (volatile i.automaton.variables) (values_of volatile_names volatile_starts) struck l
    reset =
        resets_do i.types (volatile i.automaton.variables) (values_of volatile_names volatile_starts) struck
        (λ x c. variable_spelled x (volatile_among i.automaton.variables x c))
        (λ x c. let w = known volatile_names volatile_starts x volatile_fit c in (w.0, w.1, at_start x w.0 w.1))
        (λ x c. let d = volatile_among i.automaton.variables x c in
        let w = k.present x d in (w.0, variable_stands (signal_entry n.crash) vs t x d refl ∙ sym (k.agree x (variable_spelled x d)) ∙ w.1))
        (truth_value s.up, up_stands n i starts h (signal_entry n.crash) refl vs t ∙ k.up)
      where
        at_start : (x : Name) (w : Val) → values_of volatile_names volatile_starts x ≡ Some w → struck (start_name x) ≡ Some w
        at_start x w e = ap (λ (o : Option Val). or_else o (t (start_name x))) (formals_start n i starts h x ∙ e)

    -- what a variable is after the reset
    goes_back : (x : Name) → contains volatile_names x ≡ true → (w : Val) × (values_of volatile_names volatile_starts x ≡ Some w) × (reset_to i.automaton.variables starts s.inner x ≡ Some w)
    goes_back x z =
        let w = known volatile_names volatile_starts x volatile_fit z in
        (w.0, w.1, reset_is i.automaton.variables starts s.inner x ∙ ap (λ (o : Option Val). or_else o (s.inner x)) w.1)

    stays : (x : Name) → contains volatile_names x ≡ false → reset_to i.automaton.variables starts s.inner x ≡ s.inner x
    stays x z = reset_is i.automaton.variables starts s.inner x ∙ ap (λ (o : Option Val). or_else o (s.inner x)) (absent volatile_names volatile_starts x z)

    crash_like : AreLike (Corresponds i.automaton) (Ok (host_state false (reset_to i.automaton.variables starts s.inner))) (makes (crashing n i starts) vs t (signal_entry n.crash))
    crash_like =
        subst (λ (o : Option TransitionTree). AreLike (Corresponds i.automaton) (Ok (host_state false (reset_to i.automaton.variables starts s.inner)))
        (option_map_or (λ u. next_state (rewritten n i.automaton) t (eff i.types u.effect struck)) o (Ok t)))
        (sym (crash_found n i starts h))
        (subst (λ (o : Outcome). AreLike (Corresponds i.automaton) (Ok (host_state false (reset_to i.automaton.variables starts s.inner))) (next_state (rewritten n i.automaton) t o))
        (sym reset.1)
        (made false (reset_to i.automaton.variables starts s.inner) reset.0 reset.2.down
        (λ x c. agrees x c (contains volatile_names x) refl) (λ x c. present_at x c (contains volatile_names x) refl) (λ x c. none_at x c (contains volatile_names x) refl)))
      where
        agrees : (x : Name) → contains (variable_names i.automaton) x ≡ true → (b : Bool) → contains volatile_names x ≡ b → reset_to i.automaton.variables starts s.inner x ≡ reset.0 x
        agrees x c true z =
            let w = goes_back x z in
            w.2 ∙ sym (reset.2.values x (variable_spelled x c) ∙ ap (λ b. cond b (values_of volatile_names volatile_starts x) (struck x)) z ∙ w.1)
        agrees x c false z =
            stays x z ∙ k.agree x (variable_spelled x c) ∙ sym (variable_stands (signal_entry n.crash) vs t x c refl)
            ∙ sym (reset.2.values x (variable_spelled x c) ∙ ap (λ b. cond b (values_of volatile_names volatile_starts x) (struck x)) z)

        present_at : (x : Name) → contains (variable_names i.automaton) x ≡ true → (b : Bool) → contains volatile_names x ≡ b
            → (v : Val) × (reset_to i.automaton.variables starts s.inner x ≡ Some v)
        present_at x c true z = let w = goes_back x z in (w.0, w.2)
        present_at x c false z = let w = k.present x c in (w.0, stays x z ∙ w.1)

        none_at : (x : Name) → contains (variable_names i.automaton) x ≡ false → (b : Bool) → contains volatile_names x ≡ b
            → reset_to i.automaton.variables starts s.inner x ≡ None
        none_at x c true z = not_both (contains (variable_names i.automaton) x) (volatile_among i.automaton.variables x z) c
        none_at x c false z = stays x z ∙ k.others x (not_from_false (contains (variable_names i.automaton) x) c)

    abbrev called : Env
    called = environment (crashing n i starts) (signal_entry n.recover) vs t

    recover_does : eff i.types (recover_transition n.recover).effect called ≡ becomes (with_name called up_name (truth_value true))
    recover_does =
        ap (λ (o : Option Val). then_do (assigned up_name called (gives (truth_value true)) o) (λ next. becomes next))
        (up_stands n i starts h (signal_entry n.recover) refl vs t ∙ k.up)

    recover_like : AreLike (Corresponds i.automaton) (Ok (host_state true s.inner)) (makes (crashing n i starts) vs t (signal_entry n.recover))
    recover_like =
        subst (λ (o : Option TransitionTree). AreLike (Corresponds i.automaton) (Ok (host_state true s.inner))
        (option_map_or (λ u. next_state (rewritten n i.automaton) t (eff i.types u.effect called)) o (Ok t)))
        (sym (recover_found n i starts h))
        (subst (λ (o : Outcome). AreLike (Corresponds i.automaton) (Ok (host_state true s.inner)) (next_state (rewritten n i.automaton) t o))
        (sym recover_does)
        (made true s.inner (with_name called up_name (truth_value true)) refl
        (λ x c. k.agree x (variable_spelled x c) ∙ sym (variable_stands (signal_entry n.recover) vs t x c refl)
        ∙ sym (ap (λ b. cond b (Some (truth_value true)) (called x)) (unspelled (codes "up") x (variable_spelled x c))))
        k.present (λ x c. k.others x (not_from_false (contains (variable_names i.automaton) x) c))))

  -- ---- the component

  kinds : (a : Act) → (wrapped n (reset_to i.automaton.variables starts) (component_of i)).kind_of a ≡ (component_of (crashing n i starts)).kind_of a
  kinds a = go (view n i starts h a)
    where
      go : View n i starts h a → (wrapped n (reset_to i.automaton.variables starts) (component_of i)).kind_of a ≡ (component_of (crashing n i starts)).kind_of a
      go (crashes u q) = rw (u, q) refl
      go (recovers u v q) = rw (u, v, q) refl
      go (within e u v no_c no_r p q) = rw (u, v, p, q) refl
      go (neither u v p q) = rw (u, v, p, q) refl

  guards : (a : Act) (s : HostState Env) (t : Env) → owns a (wrapped n (reset_to i.automaton.variables starts) (component_of i)) ≡ true → Corresponds i.automaton s t
      → (wrapped n (reset_to i.automaton.variables starts) (component_of i)).guard a s ≡ (component_of (crashing n i starts)).guard a t
  guards a s t o k = go (view n i starts h a)
    where
      own : is_local (option_map (λ e. e.kind) (entry_for (crashing n i starts) a)) ≡ true
      own = sym (ap is_local (kinds a)) ∙ o

      go : View n i starts h a → (wrapped n (reset_to i.automaton.variables starts) (component_of i)).guard a s ≡ (component_of (crashing n i starts)).guard a t
      go (crashes u q) = absurd (true≢false (sym own ∙ ap (λ z. is_local (option_map (λ e. e.kind) z)) q))
      go (recovers u v q) = absurd (true≢false (sym own ∙ ap (λ z. is_local (option_map (λ e. e.kind) z)) q))
      go (within e u v no_c no_r p q) =
          let local : is_local (Some e.kind) ≡ true = sym (ap (λ z. is_local (option_map (λ (d : EntryTree). d.kind) z)) q) ∙ own in
          ap (λ z. cond s.up (option_map_or (asks i a.vals s.inner) z (Ok false)) (Ok false)) p
          ∙ sym (asks_like a e p no_c no_r s t k local)
          ∙ sym (ap (λ z. option_map_or (asks (crashing n i starts) a.vals t) z (Ok false)) q)
      go (neither u v p q) =
          ap (λ z. cond s.up (option_map_or (asks i a.vals s.inner) z (Ok false)) (Ok false)) p ∙ same_twice s.up
          ∙ sym (ap (λ z. option_map_or (asks (crashing n i starts) a.vals t) z (Ok false)) q)

  effects : (a : Act) (s : HostState Env) (t : Env) → has a (wrapped n (reset_to i.automaton.variables starts) (component_of i)) ≡ true → Corresponds i.automaton s t
      → AreLike (Corresponds i.automaton) ((wrapped n (reset_to i.automaton.variables starts) (component_of i)).effect a s) ((component_of (crashing n i starts)).effect a t)
  effects a s t o k = go (view n i starts h a)
    where
      own : is_kind (option_map (λ e. e.kind) (entry_for (crashing n i starts) a)) ≡ true
      own = sym (ap is_kind (kinds a)) ∙ o

      go : View n i starts h a
          → AreLike (Corresponds i.automaton) ((wrapped n (reset_to i.automaton.variables starts) (component_of i)).effect a s) ((component_of (crashing n i starts)).effect a t)
      go (crashes u q) = rw (u, q) (crash_like a.vals s t k)
      go (recovers u v q) = rw (u, v, q) (recover_like a.vals s t k)
      go (within e u v no_c no_r p q) = rw (u, v, p, q) (makes_like a e p no_c no_r s t k)
      go (neither u v p q) = absurd (true≢false (sym own ∙ ap (λ z. is_kind (option_map (λ e. e.kind) z)) q))

  -- ---- the start

  start_same : (v : VariableTree) → list_all spelled (names_of_option v.start) ≡ true
      → start_value i.types (formal_values (crashing n i starts)) v ≡ start_value i.types (formal_values i) v
  start_same v c = go v.start c
    where
      go : (o : Option Expr) → list_all spelled (names_of_option o) ≡ true
          → settled (option_map_or (λ e. val i.types e (formal_values (crashing n i starts))) o (gives (first_named i.types v.field.ty)))
          ≡ settled (option_map_or (λ e. val i.types e (formal_values i)) o (gives (first_named i.types v.field.ty)))
      go None k = refl
      go (Some e) k = ap settled (val_same i.types spelled (formal_values (crashing n i starts)) (formal_values i) (formals_same n i starts h) e k)

  started : start_values (crashing n i starts) ≡ Ok (crashing_starts starts)
  started =
      one_more (start_value i.types (formal_values (crashing n i starts))) i.automaton.variables up_variable starts (truth_value true)
      (all_same (start_value i.types (formal_values (crashing n i starts))) (start_value i.types (formal_values i)) (λ v. list_all spelled (names_of_option v.start))
      i.automaton.variables (names n i starts h).starts start_same ∙ h.started) refl

  state_is : (x : Name) → state_of (rewritten n i.automaton) (crashing_starts starts) x ≡ or_else (state_of i.automaton starts x) (values_of (up_name ∷ []) (truth_value true ∷ []) x)
  state_is x =
      ap (λ (ns : List Name). values_of ns (starts ++ truth_value true ∷ []) x) (names_more i.automaton.variables)
      ∙ appended (variable_names i.automaton) (up_name ∷ []) starts (truth_value true ∷ []) x (starts_length n i starts h)

  start : Corresponds i.automaton (host_state true (state_of i.automaton starts)) (state_of (rewritten n i.automaton) (crashing_starts starts))
  start = record {
    up = state_is up_name
        ∙ ap (λ (o : Option Val). or_else o (Some (truth_value true))) (absent (variable_names i.automaton) starts up_name (none_unspelled (variable_names i.automaton) (codes "up") (names n i starts h).variables));
    agree = λ x s. sym (state_is x ∙ ap (λ b. or_else (state_of i.automaton starts x) (cond b (Some (truth_value true)) None)) (unspelled (codes "up") x s) ∙ or_none (state_of i.automaton starts x));
    present = λ x c. known (variable_names i.automaton) starts x (starts_length n i starts h) c;
    others = λ x c. absent (variable_names i.automaton) starts x (not_true (contains (variable_names i.automaton) x) c);
  }

  pub crash_meant : MeansCrash n i starts
  crash_meant = record { like = record { kinds = kinds; guards = guards; effects = effects }; started = started; start = start }

pub means_crash : RewritingMeansCrash
means_crash n i starts h = crash_meant n i starts h
