-- Broken invariants of corresponding states, found one after another.
use Rattle.std.proofs.Common.{◌≡◌, ◌<◌, ◌≤◌, ℕ, zero, suc, ◌+◌, List, [], ◌∷◌, ◌++◌, Bool, IsTrue, Option, None, Some, length, take, drop, map, get_or, if◌then◌else◌, refl, sym, ap, subst, ◌∙◌, arith}
use Rattle.std.specs.Prelude.{slice_get}
use Rattle.std.specs.List.{AllZip}
use Rattle.std.specs.Option.{option_map}
use Rattle.std.specs.Str.{bytes_eq}
use Rattle.std.proofs.lemmas.List.{drop_all, length-map, take-map, take-append-drop}
use Rattle.std.proofs.lemmas.Option.{slice_get_within}
use mathlib.Core.Path.{fun_ext}
use Rattle.ioa_value.specs.Actions.{Act}
use Rattle.ioa_value.specs.Plain.{Val}
use Rattle.ioa_value.proofs.ItemLemmas.{at_map, drop_item, item_there}
use Rattle.ioa_value.specs.Table.{Table}
use Rattle.ioa_value.proofs.RowLemmas.{drop_there}
use Rattle.ioa_parts.specs.Nodes.{Node}
use Rattle.ioa_tree.specs.Tree.{FieldTree}
use Rattle.ioa_tree.specs.Meaning.{Env, or_else}
use Rattle.ioa_tree.specs.Instances.{Instance, Fit, field_names, state_of}
use Rattle.ioa_tree.specs.WellFormed.{variable_fields}
use Rattle.ioa_tree.specs.Compositions.{Composed, Member, components_of, starts_of}
use Rattle.ioa_tree.specs.Steps.{Moved, next, not_an_action, not_enabled, fault, step}
use Rattle.ioa_tree.specs.Invariants.{Broken, holds, breaks, broken_by, broken_from, broken_at, in_next, first_from, first_broken}
use Rattle.ioa_tree.specs.Runs.{Ending, Reached, done, not_an_action_at, not_enabled_at, fault_at, after, run_from, run}
use Rattle.ioa_tree.specs.Likes.{AllRelated, MovesLike}
use Rattle.ioa_tree.proofs.Simulation.{step_like}
use Rattle.ioa_compose.specs.declared.member.Member as held
use Rattle.ioa_compose.specs.Fine.{IsFine, AllFine}
use Rattle.ioa_crash.specs.Limits.{component_limits}
use Rattle.ioa_compose.specs.Held.{member_of}
use Rattle.ioa_compose.specs.Questions.{IsQuestion, OfThese, first_of}
use Rattle.ioa_compose.proofs.MemberLemmas.{fine_at}
use Rattle.ioa_crash.proofs.RewrittenNames.{fit_length}
use Rattle.ioa_compose.proofs.StandLemmas.{stands_broken}
use Rattle.ioa_compile.specs.Correspondence.{CorrespondsIn, CorrespondsAt}
use Rattle.ioa_compile.specs.Matching.{AreTypesOf, MatchesMember}
use Rattle.ioa_compile.specs.Programs.{MemberCode, Prog}
use Rattle.ioa_compile.specs.Subjects.{RunsAs, Subject, of_composition, of_hosts, of_table}
use Rattle.ioa_compile.specs.Tables.{tabled, start_states}
use Rattle.ioa_compile.specs.Implements.{Implements}
use Rattle.ioa_system.specs.Systems.{Slots, slot_types, slots_of, types_of}
use Rattle.ioa_inspect.specs.Breaking.{AreStates, AreTyped, IsState, SimulatesAs, broken_at_end, its_first_broken, state_in, states_in}

-- ---- states

-- an environment that corresponds to values is the state in which the variables have them
state_known : (o : Option Member) (e : Env) (vs : List Val) → CorrespondsIn o e vs → e ≡ state_in o vs
state_known None e vs h = absurd h
state_known (Some m) e vs h = fun_ext h.values

states_known : (ms : List Member) (i : ℕ) (es : List Env) (vss : List (List Val)) → AllRelated (CorrespondsAt ms) i es vss → es ≡ states_in ms i vss
states_known ms i [] [] h = refl
states_known ms i [] (vs ∷ vss) h = absurd h
states_known ms i (e ∷ es) [] h = absurd h
states_known ms i (e ∷ es) (vs ∷ vss) h =
    let k : e ≡ state_in (slice_get ms i) vs = state_known (slice_get ms i) e vs h.0 in
    let ks : es ≡ states_in ms (i + 1) vss = states_known ms (i + 1) es vss h.1 in
    cc

pub are_states : (ms : List Member) (es : List Env) (vss : List (List Val)) → AllRelated (CorrespondsAt ms) 0 es vss → AreStates ms vss
are_states ms es vss h = subst (λ xs. AllRelated (CorrespondsAt ms) 0 xs vss) (states_known ms 0 es vss h) h

-- a component of this number there is, and the values are of its variables' types
pub state_there : (o : Option Member) (vs : List Val) → CorrespondsIn o (state_in o vs) vs → (m : Member) × (o ≡ Some m) × Fit m.instance.types (variable_fields m.instance.automaton) vs
state_there None vs h = absurd h
state_there (Some m) vs h = (m, refl, h.typed)

-- the states of a program that implements the composition have its components' types
pub typed_states : (ms : List Member) (cs : List MemberCode) (ns : List Node) → AllZip MatchesMember ms cs → types_of ns ≡ slot_types cs → AreTyped ms ns
typed_states [] cs ns all e i n here m there = absurd (cc)
typed_states (m ∷ ms) [] ns all e i n here k there = absurd all
typed_states (m ∷ ms) (c ∷ cs) [] all e i n here k there = absurd (cc)
typed_states (m ∷ ms) (c ∷ cs) (x ∷ ns) all e zero n here k there =
    let first : slots_of x ≡ slots_of c.start = cc in
    let node : x ≡ n = cc in
    let member : m ≡ k = cc in
    subst (λ (y : Node). (y.table ≡ k.instance.types) × AreTypesOf k.instance.types (variable_fields k.instance.automaton) y.types) node
    (subst (λ (l : Member). (x.table ≡ l.instance.types) × AreTypesOf l.instance.types (variable_fields l.instance.automaton) x.types) member
    (ap (λ (s : Slots). s.table) first ∙ all.0.types, subst (AreTypesOf m.instance.types (variable_fields m.instance.automaton)) (sym (ap (λ (s : Slots). s.types) first)) all.0.variables))
typed_states (m ∷ ms) (c ∷ cs) (x ∷ ns) all e (suc i) n here k there =
    let rest : types_of ns ≡ slot_types cs = cc in
    typed_states ms cs ns all.1 rest i n here k there

-- ---- the values of the variables that a component's source declares: the first ones

fit_first : (types : Table) (k : ℕ) (fs : List FieldTree) (vs : List Val) → Fit types fs vs → Fit types (take k fs) (take k vs)
fit_first types zero fs vs h = tt
fit_first types (suc k) [] [] h = tt
fit_first types (suc k) [] (v ∷ vs) h = absurd h
fit_first types (suc k) (f ∷ fs) [] h = absurd h
fit_first types (suc k) (f ∷ fs) (v ∷ vs) h = (h.0, h.1, h.2, fit_first types k fs vs h.3)

first_fit : (m : Member) (vs : List Val) → Fit m.instance.types (variable_fields m.instance.automaton) vs
    → Fit m.instance.types (variable_fields (first_of m.declared m.instance.automaton)) (take m.declared vs)
first_fit m vs h =
    let a = m.instance.automaton in
    subst (λ fs. Fit m.instance.types fs (take m.declared vs)) (take-map (λ v. v.field) m.declared a.variables) (fit_first m.instance.types m.declared (variable_fields a) vs h)

declared_few : (m : Member) (vs : List Val) → IsFine component_limits m → Fit m.instance.types (variable_fields m.instance.automaton) vs → m.declared ≤ length vs
declared_few m vs f h =
    let a = m.instance.automaton in
    let names : length (field_names (variable_fields a)) ≡ length vs = fit_length m.instance.types (variable_fields a) vs h in
    omega (arith, f.declared, length-map (variable_fields a) (λ f. f.name), length-map a.variables (λ v. v.field))

module _ (xs : List held.Member) (i : ℕ) (vs : List Val) (h : IsState (map member_of xs) i vs) where
  pub component_within : i < length xs
  component_within =
      let m = state_there (slice_get (map member_of xs) i) vs h in subst (λ n. i < n) (length-map xs member_of) (slice_get_within (map member_of xs) i m.0 m.1)

  module _ (x : held.Member) (e : x ≡ get_or xs i x) where
    there : slice_get (map member_of xs) i ≡ Some (member_of x)
    there = at_map member_of xs i x component_within e

    -- they have values
    pub values_enough : AllFine component_limits (map member_of xs) → x.declared ≤ length vs
    values_enough f =
        let m = state_there (slice_get (map member_of xs) i) vs h in
        let both : Some m.0 ≡ Some (member_of x) = sym m.1 ∙ there in
        let same : m.0 ≡ member_of x = cc in
        declared_few (member_of x) vs (fine_at xs i x f component_within e)
        (subst (λ (u : Member). Fit u.instance.types (variable_fields u.instance.automaton) vs) same m.2)

    pub values_first : (ws : List Val) → ws ≡ take x.declared vs → (m : Member) → slice_get (map member_of xs) i ≡ Some m → ws ≡ take m.declared vs
    values_first ws w m k =
        let both : Some (member_of x) ≡ Some m = sym there ∙ k in
        let same : member_of x ≡ m = cc in
        w ∙ ap (λ (u : Member). take u.declared vs) same

-- ---- the invariants of one component, one after another

module _ (c : Composed) (i : ℕ) (vs : List Val) where
  -- the state in which the variables of this component have the values
  abbrev here : Member → Env
  here m = state_of m.instance.automaton vs

  -- those before the one of this number are not broken
  abbrev pub Sought : ℕ → Type 0
  Sought k = (m : Member) → slice_get c.members i ≡ Some m → broken_by 0 c.invariants m.instance (here m) ≡ broken_by k (drop k c.invariants) m.instance (here m)

  -- whether the next one is broken decides, or the later ones do
  pub sought_more : (k : ℕ) (b : Bool) → k < length c.invariants → Sought k → OfThese c i k (λ m v. b ≡ breaks m.instance v (here m)) → (m : Member)
      → slice_get c.members i ≡ Some m
      → broken_by 0 c.invariants m.instance (here m) ≡ (if b then Some k else broken_by (k + 1) (drop (k + 1) c.invariants) m.instance (here m))
  sought_more k b l s h m e =
      let v = item_there c.invariants k l in
      s m e ∙ ap (λ xs. broken_by k xs m.instance (here m)) (drop_there c.invariants k v.0 v.1)
      ∙ ap (λ x. if x then Some k else broken_by (k + 1) (drop (k + 1) c.invariants) m.instance (here m)) (sym (h m v.0 e v.1))

  pub sought_none : (k : ℕ) → length c.invariants ≤ k → Sought k → (m : Member) → slice_get c.members i ≡ Some m → broken_by 0 c.invariants m.instance (here m) ≡ None
  sought_none k l s m e = s m e ∙ ap (λ xs. broken_by k xs m.instance (here m)) (drop_all k c.invariants l)

  -- what is asked of the composition: the values of the variables that the component's source declares
  pub question : (k : ℕ) (ws : List Val) → IsState c.members i vs → k < length c.invariants → OfThese c i k (λ m v. IsTrue (bytes_eq v.automaton m.instance.automaton.name))
      → ((m : Member) → slice_get c.members i ≡ Some m → ws ≡ take m.declared vs) → IsQuestion c i k ws
  question k ws h l b w =
      let m = state_there (slice_get c.members i) vs h in
      let v = item_there c.invariants k l in
      record {
        member = m.0;
        invariant = v.0;
        member_there = m.1;
        invariant_there = v.1;
        about = b m.0 v.0 m.1 v.1;
        fit = subst (Fit m.0.instance.types (variable_fields (first_of m.0.declared m.0.instance.automaton))) (sym (w m.0 m.1)) (first_fit m.0 vs m.2);
      }

  -- the answer is the same whatever the other variables have, and so of the state
  pub answered : (b : Bool) (k : ℕ) (ws : List Val) → ((m : Member) → slice_get c.members i ≡ Some m → ws ≡ take m.declared vs)
      → OfThese c i k (λ m v. (more : List Val) → b ≡ holds m.instance v.condition (state_of m.instance.automaton (ws ++ more)))
      → OfThese c i k (λ m v. b ≡ holds m.instance v.condition (here m))
  answered b k ws w h = λ m v e f.
      let parts : ws ++ drop m.declared vs ≡ vs = ap (λ xs. xs ++ drop m.declared vs) (w m e) ∙ take-append-drop m.declared vs in
      subst (λ xs. b ≡ holds m.instance v.condition (state_of m.instance.automaton xs)) parts (h m v e f (drop m.declared vs))

-- ---- the components, one after another

module _ (c : Composed) (n : ℕ) (vss : List (List Val)) where
  -- the first one that those from this one on break
  abbrev from_here : ℕ → Option Broken
  from_here j = broken_from n j c.invariants (map (λ m. m.instance) (drop j c.members)) (states_in c.members j (drop j vss))

  -- those before the one of this number break none
  pub record Looked (j : ℕ) : Type 0 where
    pub left : AllRelated (CorrespondsAt c.members) j (states_in c.members j (drop j vss)) (drop j vss)
    pub rest : broken_at c n (states_in c.members 0 vss) ≡ from_here j

  pub looked_none : AreStates c.members vss → Looked 0
  looked_none h = record { left = h; rest = refl }

  module _ (j : ℕ) (vs : List Val) (i : slice_get vss j ≡ Some vs) (h : Looked j) where
    parted : drop j vss ≡ vs ∷ drop (j + 1) vss
    parted = drop_there vss j vs i

    both_left : AllRelated (CorrespondsAt c.members) j (states_in c.members j (vs ∷ drop (j + 1) vss)) (vs ∷ drop (j + 1) vss)
    both_left = subst (λ xs. AllRelated (CorrespondsAt c.members) j (states_in c.members j xs) xs) parted h.left

    pub next_state : IsState c.members j vs
    next_state = both_left.0

    abbrev told : Option ℕ → Option Broken
    told o = option_map (λ k. record { state = n; component = j; invariant = k }) o

    abbrev IsItsFirst : Option ℕ → Type 0
    IsItsFirst o = (m : Member) → slice_get c.members j ≡ Some m → o ≡ broken_by 0 c.invariants m.instance (state_of m.instance.automaton vs)

    pub looked_more : (o : Option ℕ) → IsItsFirst o → broken_at c n (states_in c.members 0 vss) ≡ or_else (told o) (from_here (j + 1))
    looked_more o f =
        let m = state_there (slice_get c.members j) vs next_state in
        h.rest ∙ ap (λ xs. broken_from n j c.invariants (map (λ x. x.instance) xs) (states_in c.members j (drop j vss))) (drop_there c.members j m.0 m.1)
        ∙ ap (λ xs. broken_from n j c.invariants (map (λ x. x.instance) (m.0 ∷ drop (j + 1) c.members)) (states_in c.members j xs)) parted
        ∙ ap (λ x. or_else (told (broken_by 0 c.invariants m.0.instance (state_in x vs))) (from_here (j + 1))) m.1
        ∙ ap (λ x. or_else (told x) (from_here (j + 1))) (sym (f m.0 m.1))

    pub looked_next : IsItsFirst None → Looked (j + 1)
    looked_next f = record { left = both_left.1; rest = looked_more None f }

  none_left : (j : ℕ) (is : List Instance) → broken_from n j c.invariants is [] ≡ None
  none_left j [] = refl
  none_left j (i ∷ is) = refl

  pub looked_all : (j : ℕ) → length vss ≤ j → Looked j → broken_at c n (states_in c.members 0 vss) ≡ None
  looked_all j l h =
      h.rest ∙ ap (λ xs. broken_from n j c.invariants (map (λ m. m.instance) (drop j c.members)) (states_in c.members j xs)) (drop_all j vss l)
      ∙ none_left j (map (λ m. m.instance) (drop j c.members))

-- ---- the states, one after another

-- an invariant that is found, then the later ones
found_then : (o b m : Option Broken) → or_else o (or_else b m) ≡ or_else (or_else o b) m
found_then None b m = refl
found_then (Some x) b m = refl

module _ (c : Composed) (p : Prog) (acts : List Act) where
  -- the first one that is broken from here on
  abbrev pub later : ℕ → List Act → List Env → Option Broken
  later n xs ss = first_from (components_of c) (broken_at c) n xs ss

  -- what is left to ask, where the run of n actions ends so
  abbrev pub left : ℕ → Ending → List Env → Option Broken
  left n (done k) ss = later n (drop n acts) ss
  left n (not_an_action_at i) ss = None
  left n (not_enabled_at i) ss = None
  left n (fault_at j f i) ss = None

  -- the states before the last one of a run of n actions were asked: what was found in them decides, or what is left
  pub record Asked (n : ℕ) (o : Option Broken) (r : Reached (List Val)) : Type 0 where
    pub states : AreStates c.members r.states
    pub rest : first_broken c acts ≡ or_else o (left n r.ending (states_in c.members 0 r.states))

  pub asked_none : (r : Reached (List Val)) → Implements p c → r ≡ run (tabled p) [] (start_states p) → Asked 0 None r
  asked_none r m e =
      let k : starts_of c ≡ states_in c.members 0 (start_states p) = states_known c.members 0 (starts_of c) (start_states p) m.starts in
      record {
        states = subst (λ (x : Reached (List Val)). AreStates c.members x.states) (sym e) (are_states c.members (starts_of c) (start_states p) m.starts);
        rest = ap (λ ss. later 0 acts ss) k ∙ ap (λ (x : Reached (List Val)). left 0 x.ending (states_in c.members 0 x.states)) (sym e);
      }

  module _ (n : ℕ) (a : Act) (r now : Reached (List Val)) (o o' : Option Broken) (l : n < length acts) (i : a ≡ get_or acts n a) (s : Asked n o r) (d : r.ending ≡ done n)
      (q : o' ≡ or_else o (broken_at c n (states_in c.members 0 r.states))) (m : Implements p c)
      (e : now ≡ after n r.states (step (tabled p) a r.states) (λ ts. run_from (n + 1) (tabled p) [] ts)) where
    abbrev states_here : List Env
    states_here = states_in c.members 0 r.states

    abbrev more : Moved Env → Option Broken
    more x = in_next x (λ ts. later (n + 1) (drop (n + 1) acts) ts)

    asked_first : first_broken c acts ≡ or_else o' (more (step (components_of c) a states_here))
    asked_first =
        s.rest ∙ ap (λ x. or_else o (left n x states_here)) d ∙ ap (λ xs. or_else o (later n xs states_here)) (drop_item acts n a l i)
        ∙ found_then o (broken_at c n states_here) (more (step (components_of c) a states_here)) ∙ ap (λ x. or_else x (more (step (components_of c) a states_here))) (sym q)

    abbrev Goes : Moved Env → Reached (List Val) → Type 0
    Goes x t = (more x ≡ left (n + 1) t.ending (states_in c.members 0 t.states)) × AreStates c.members t.states

    -- the source's answer, by the table's
    goes : (x : Moved Env) (y : Moved (List Val)) → MovesLike (CorrespondsAt c.members) 0 x y → Goes x (after n r.states y (λ ts. run_from (n + 1) (tabled p) [] ts))
    goes (next es) y (ts, z, h) =
        subst (λ w. Goes (next es) (after n r.states w (λ us. run_from (n + 1) (tabled p) [] us))) (sym z)
        (ap (λ us. later (n + 1) (drop (n + 1) acts) us) (states_known c.members 0 es ts h), are_states c.members es ts h)
    goes not_an_action y z = subst (λ w. Goes not_an_action (after n r.states w (λ us. run_from (n + 1) (tabled p) [] us))) (sym z) (refl, s.states)
    goes not_enabled y z = subst (λ w. Goes not_enabled (after n r.states w (λ us. run_from (n + 1) (tabled p) [] us))) (sym z) (refl, s.states)
    goes (fault j f) y z = subst (λ w. Goes (fault j f) (after n r.states w (λ us. run_from (n + 1) (tabled p) [] us))) (sym z) (refl, s.states)

    pub asked_more : Asked (n + 1) o' now
    asked_more =
        let g : Goes (step (components_of c) a states_here) now =
        subst (Goes (step (components_of c) a states_here)) (sym e) (goes (step (components_of c) a states_here) (step (tabled p) a r.states)
        (step_like (CorrespondsAt c.members) (components_of c) (tabled p) a states_here r.states m.components s.states)) in
        record { states = g.1; rest = asked_first ∙ ap (or_else o') g.0 }

  none_later : (n : ℕ) (x : Ending) (ss : List Env) → length acts ≤ n → left n x ss ≡ broken_at_end c n x ss
  none_later n (done k) ss l = ap (λ xs. later n xs ss) (drop_all n acts l)
  none_later n (not_an_action_at i) ss l = refl
  none_later n (not_enabled_at i) ss l = refl
  none_later n (fault_at j f i) ss l = refl

  pub asked_all : (n : ℕ) (r : Reached (List Val)) (o o' : Option Broken) → length acts ≤ n → Asked n o r
      → o' ≡ or_else o (broken_at_end c n r.ending (states_in c.members 0 r.states)) → first_broken c acts ≡ o'
  asked_all n r o o' l s q = s.rest ∙ ap (or_else o) (none_later n r.ending (states_in c.members 0 r.states) l) ∙ sym q

-- ---- what is asked of a composition, said of what it stands for

-- a program of the composition does what the subject does
pub runs_through : (p : Prog) (c : Composed) → Implements p c → (s : Subject) → SimulatesAs c s → RunsAs p s
runs_through p c m (of_hosts h) stands = (c, stands, m)
runs_through p c m (of_composition d) same = subst (λ x. Implements p x) same m
runs_through p c m (of_table q) none = absurd none

pub broken_as : (c : Composed) (s : Subject) → SimulatesAs c s → (acts : List Act) → first_broken c acts ≡ its_first_broken s acts
broken_as c (of_hosts h) stands acts = sym (stands_broken h c stands acts)
broken_as c (of_composition d) same acts = ap (λ x. first_broken x acts) same
broken_as c (of_table q) none acts = absurd none
