-- The composition of rewritten components, and of those that do not crash, stands for the hosts.
use Rattle.std.proofs.Common.{◌≡◌, ℕ, suc, ◌+◌, Bool, true, false, not, cond, ◌&&◌, ◌||◌, List, [], ◌∷◌, ◌++◌, map, All, Option, Some, None, Result, Ok, Err, slice_get, length, take, codes, if◌then◌else◌, refl, sym, ap, subst, ◌∙◌, arith, ◌≤◌}
use Rattle.std.specs.List.{AllZip, list_all, list_any}
use Rattle.std.specs.Option.{option_map}
use Rattle.std.specs.Str.{bytes_eq}
use Rattle.std.proofs.lemmas.List.{append-nil, map-append, length-map, length_push, length-take-le}
use Rattle.std.proofs.lemmas.List.Elements.{All-head, All-tail}
use Rattle.std.proofs.lemmas.Option.{slice_get-map}
use Rattle.ioa_arithmetic.specs.declared.arithmetic.Fault.{Fault}
use Rattle.ioa_value.specs.Actions.{Name, Act}
use Rattle.ioa_value.specs.Plain.{Val, truth as truth_value}
use Rattle.ioa_value.specs.Table.{contains}
use Rattle.ioa_value.proofs.ItemLemmas.{all_at}
use Rattle.ioa_value.proofs.NameLemmas.{own_name}
use Rattle.ioa_tree.specs.declared.tree.Kind.{Kind}
use Rattle.ioa_tree.specs.declared.tree.Kind.TheVariants.{Input}
use Rattle.ioa_tree.specs.Tree.{Expr, CrashTree, EntryTree, VariableTree, TransitionTree, InvariantTree}
use Rattle.ioa_tree.specs.Names.{names_of_expr, names_of_entry}
use Rattle.ioa_tree.specs.Meaning.{Env, or_else, over, values_of}
use Rattle.ioa_tree.specs.Instances.{Instance, variable_names, formal_values, component_of, state_of}
use Rattle.ioa_tree.specs.Proposing.{proposed}
use Rattle.ioa_tree.specs.Components.{Component, Compatible}
use Rattle.ioa_tree.specs.Compositions.{Member, Composed, components_of, starts_of}
use Rattle.ioa_tree.specs.Invariants.{is_true, holds, breaks, broken_by, broken_from, Broken, first_broken, broken_at}
use Rattle.ioa_tree.specs.Likes.{AreLike, IsLike, AllLike, AllRelated, RunsLike}
use Rattle.ioa_tree.specs.Steps.{owner, participants}
use Rattle.ioa_tree.specs.Runs.{run, trace, is_external}
use Rattle.ioa_tree.specs.Hosts.{HostState, host_state, when_ok, steady, hosted, reset_to, Host, host_of, host_start, Hosted, hosts_of, host_starts, broken_hosts, first_broken_host}
use Rattle.ioa_tree.proofs.Agreement.{val_same}
use Rattle.ioa_tree.proofs.Alike.{like_kinds, kinds_back, same_compatible, first_like}
use Rattle.ioa_tree.proofs.Simulation.{run_like, trace_like, owner_like, participants_like, external_like}
use Rattle.ioa_crash.specs.Rewriting.{spelled, up_name, up_variable, signals, guarded, proposing, added_proposals, added_variables, crash_transition, recover_transition, rewritten, crashing}
use Rattle.ioa_compose.specs.Simulates.{StandsBy, StandsFor, StandsAt, member_by, member_for, MayStand, TellsUp, SlotsHold, HoldsWith, IsMadeBy, IsMadeOf, HoldsAlike, has_kind, Simulates, RewritingSimulates, HeldWith}
use Rattle.ioa_crash.proofs.SpelledNames.{absent, all_of, none_unspelled, unspelled}
use Rattle.ioa_crash.proofs.SpelledTrees.{automaton_spelled}
use Rattle.ioa_compose.proofs.FirstVariables.{is_added, values_before}
use Rattle.ioa_clash.proofs.ZipLemmas.{all_found}
use Rattle.ioa_crash.proofs.RewrittenEntries.{entry_same}
use Rattle.ioa_crash.proofs.RewrittenNames.{names, formals_same}
use Rattle.ioa_compose.proofs.ProposedAlike.{proposed_alike}
use Rattle.ioa_crash.proofs.CrashLemmas.{means_crash}

-- ---- relations that say the same

moved : {S T : Type 0} (R Q : S → T → Type 0) (x : Result S Fault) (y : Result T Fault) → ((s : S) (t : T) → R s t → Q s t) → AreLike R x y → AreLike Q x y
moved R Q (Ok s) (Ok t) k h = k s t h
moved R Q (Ok s) (Err f) k h = h
moved R Q (Err f) (Ok t) k h = h
moved R Q (Err f) (Err g) k h = h

same_like : {S T : Type 0} (R Q : S → T → Type 0) (p : Component S) (q : Component T) → ((s : S) (t : T) → R s t → Q s t) → ((s : S) (t : T) → Q s t → R s t)
    → IsLike R p q → IsLike Q p q
same_like R Q p q to back h = record {
  kinds = h.kinds;
  guards = λ a s t o k. h.guards a s t o (back s t k);
  effects = λ a s t o k. moved R Q (p.effect a s) (q.effect a t) to (h.effects a s t o (back s t k));
}

-- ---- one host

abbrev IsUp : HostState Env → Env → Type 0
IsUp h s = (h.up ≡ true) × (h.inner ≡ s)

steady_gives : (x : Result Env Fault) → AreLike IsUp (when_ok (host_state true) x) x
steady_gives (Ok s) = (refl, refl)
steady_gives (Err f) = refl

steady_is : (p : Component Env) → IsLike IsUp (steady p) p
steady_is p = record {
  kinds = λ a. refl;
  guards = λ a h s o k. ap (p.guard a) k.1;
  effects = λ a h s o k.
      subst (λ (b : Bool). AreLike IsUp (when_ok (host_state b) (p.effect a h.inner)) (p.effect a s)) (sym k.0)
      (subst (λ (u : Env). AreLike IsUp (when_ok (host_state true) (p.effect a h.inner)) (p.effect a u)) k.1 (steady_gives (p.effect a h.inner)));
}

one_like : (o : Option CrashTree) (p : Host) → MayStand o p
    → IsLike (StandsBy o p.instance.automaton) (hosted o (reset_to p.instance.automaton.variables p.starts) (component_of p.instance)) (component_of (member_by o p).instance)
one_like None p h = steady_is (component_of p.instance)
one_like (Some n) p h = (means_crash n p.instance p.starts h).like

one_start : (o : Option CrashTree) (p : Host) → MayStand o p
    → StandsBy o p.instance.automaton (host_start p) (state_of (member_by o p).instance.automaton (member_by o p).starts)
one_start None p h = (refl, refl)
one_start (Some n) p h = (means_crash n p.instance p.starts h).start

one_name : (o : Option CrashTree) (p : Host) → (member_by o p).instance.automaton.name ≡ p.instance.automaton.name
one_name None p = refl
one_name (Some n) p = refl

-- the slots of the variables, and of one more
values_more : (ns : List Name) (m : Name) (vs : List Val) (x : Name) → contains ns x ≡ true → values_of (ns ++ m ∷ []) vs x ≡ values_of ns vs x
values_more [] m vs x h = absurd (let k : false ≡ true = h in cc)
values_more (n ∷ ns) m [] x h = refl
values_more (n ∷ ns) m (v ∷ vs) x h = go (bytes_eq n x) h (λ k. values_more ns m vs x k)
  where
    go : (b : Bool) → (b || contains ns x) ≡ true → (contains ns x ≡ true → values_of (ns ++ m ∷ []) vs x ≡ values_of ns vs x)
        → (if b then Some v else values_of (ns ++ m ∷ []) vs x) ≡ (if b then Some v else values_of ns vs x)
    go true k r = refl
    go false k r = r k

value_after : (ns : List Name) (vs : List Val) (x : Name) → contains ns x ≡ false → values_of (ns ++ x ∷ []) vs x ≡ slice_get vs (length ns)
value_after [] [] x h = refl
value_after [] (v ∷ vs) x h = rw (own_name x) refl
value_after (n ∷ ns) [] x h = refl
value_after (n ∷ ns) (v ∷ vs) x h = go (bytes_eq n x) h (λ k. value_after ns vs x k)
  where
    go : (b : Bool) → (b || contains ns x) ≡ false → (contains ns x ≡ false → values_of (ns ++ x ∷ []) vs x ≡ slice_get vs (length ns))
        → (if b then Some v else values_of (ns ++ x ∷ []) vs x) ≡ slice_get vs (length ns)
    go true k r = absurd (let z : true ≡ false = k in cc)
    go false k r = r k

one_holding : (o : Option CrashTree) (p : Host) → MayStand o p → (h : HostState Env) (s : Env) (slots : List Val) → StandsBy o p.instance.automaton h s
    → length slots ≡ length (variable_names (member_by o p).instance.automaton) → ((x : Name) → s x ≡ values_of (variable_names (member_by o p).instance.automaton) slots x)
    → ((x : Name) → h.inner x ≡ values_of (variable_names p.instance.automaton) slots x) × TellsUp o (length p.instance.automaton.variables) h.up slots
one_holding None p may h s slots r l v =
    (λ x. ap (λ (e : Env). e x) r.1 ∙ v x, (l ∙ length-map p.instance.automaton.variables (λ (u : VariableTree). u.field.name), r.0))
one_holding (Some n) p may h s slots r l v = (λ x. by_name x (contains ns x) refl, (count, told))
  where
    vs : List VariableTree
    vs = p.instance.automaton.variables

    ns : List Name
    ns = variable_names p.instance.automaton

    all : list_all spelled ns ≡ true
    all = (automaton_spelled p.instance.automaton may.legal).variables

    names : variable_names (rewritten n p.instance.automaton) ≡ ns ++ up_name ∷ []
    names = map-append (λ (u : VariableTree). u.field.name) vs (up_variable ∷ [])

    held : (x : Name) → s x ≡ values_of (ns ++ up_name ∷ []) slots x
    held x = v x ∙ ap (λ (l : List Name). values_of l slots x) names

    by_name : (x : Name) (b : Bool) → contains ns x ≡ b → h.inner x ≡ values_of ns slots x
    by_name x true e = r.agree x (all_of spelled ns x all e) ∙ held x ∙ values_more ns up_name slots x e
    by_name x false e = r.others x (ap not e) ∙ sym (absent ns slots x e)

    each : length ns ≡ length vs
    each = length-map vs (λ (u : VariableTree). u.field.name)

    count : length slots ≡ length vs + 1
    count = l ∙ ap length names ∙ length_push ns up_name ∙ ap (λ k. k + 1) each

    told : slice_get slots (length vs) ≡ Some (truth_value h.up)
    told =
        ap (slice_get slots) (sym each) ∙ sym (value_after ns slots up_name (none_unspelled ns (codes "up") all)) ∙ sym (held up_name) ∙ r.up

-- a name that a text can spell is not that of the slot which is added
not_added : (ns : List Name) (x : Name) → spelled x ≡ true → contains ns x ≡ false → contains (ns ++ up_name ∷ []) x ≡ false
not_added [] x k h = rw (unspelled (codes "up") x k) refl
not_added (n ∷ ns) x k h = go (bytes_eq n x) h (not_added ns x k)
  where
    go : (b : Bool) → (b || contains ns x) ≡ false → (contains ns x ≡ false → contains (ns ++ up_name ∷ []) x ≡ false) → (b || contains (ns ++ up_name ∷ []) x) ≡ false
    go true r more = absurd (let z : true ≡ false = r in cc)
    go false r more = more r

-- a variable has a value where there are enough slots
known_within : (ns : List Name) (vs : List Val) (x : Name) → length ns ≤ length vs → contains ns x ≡ true → (v : Val) × (values_of ns vs x ≡ Some v)
known_within [] vs x l h = absurd (let z : false ≡ true = h in cc)
known_within (n ∷ ns) [] x l h = absurd (omega arith)
known_within (n ∷ ns) (v ∷ vs) x l h = go (bytes_eq n x) h (known_within ns vs x (omega arith))
  where
    go : (b : Bool) → (b || contains ns x) ≡ true → (contains ns x ≡ true → (w : Val) × (values_of ns vs x ≡ Some w))
        → (w : Val) × ((if b then Some v else values_of ns vs x) ≡ Some w)
    go true r more = (v, refl)
    go false r more = more r

-- slots that hold the host's state are those of a state that stands for it
one_held : (o : Option CrashTree) (p : Host) → MayStand o p → (h : HostState Env) (slots : List Val)
    → ((x : Name) → h.inner x ≡ values_of (variable_names p.instance.automaton) slots x) → TellsUp o (length p.instance.automaton.variables) h.up slots
    → (s : Env) × StandsBy o p.instance.automaton h s × ((x : Name) → s x ≡ values_of (variable_names (member_by o p).instance.automaton) slots x)
one_held None p may h slots v t = (h.inner, (t.1, refl), v)
one_held (Some n) p may h slots v t = (
  state,
  record {
    up = ap (λ (l : List Name). values_of l slots up_name) names ∙ value_after ns slots up_name (none_unspelled ns (codes "up") all) ∙ ap (slice_get slots) each ∙ t.1;
    agree = λ x k. v x ∙ same x k (contains ns x) refl;
    present = λ x k. let w = known_within ns slots x (omega (arith, t.0, each)) k in (w.0, v x ∙ w.1);
    others = λ x k. v x ∙ absent ns slots x (not_from x (contains ns x) refl k);
  },
  λ x. refl,
)
  where
    vs : List VariableTree
    vs = p.instance.automaton.variables

    ns : List Name
    ns = variable_names p.instance.automaton

    state : Env
    state x = values_of (variable_names (rewritten n p.instance.automaton)) slots x

    all : list_all spelled ns ≡ true
    all = (automaton_spelled p.instance.automaton may.legal).variables

    names : variable_names (rewritten n p.instance.automaton) ≡ ns ++ up_name ∷ []
    names = map-append (λ (u : VariableTree). u.field.name) vs (up_variable ∷ [])

    each : length ns ≡ length vs
    each = length-map vs (λ (u : VariableTree). u.field.name)

    not_from : (x : Name) (b : Bool) → contains ns x ≡ b → not (contains ns x) ≡ true → contains ns x ≡ false
    not_from x true e k = absurd (let z : false ≡ true = sym (ap not e) ∙ k in cc)
    not_from x false e k = e

    same : (x : Name) → spelled x ≡ true → (b : Bool) → contains ns x ≡ b → values_of ns slots x ≡ state x
    same x k true e = sym (ap (λ (l : List Name). values_of l slots x) names ∙ values_more ns up_name slots x e)
    same x k false e = absent ns slots x e ∙ sym (ap (λ (l : List Name). values_of l slots x) names ∙ absent (ns ++ up_name ∷ []) slots x (not_added ns x k e))

-- a condition of spelled names is as true of what stands for the host
one_holds : (o : Option CrashTree) (p : Host) → MayStand o p → (v : InvariantTree) → list_all spelled (names_of_expr v.condition) ≡ true
    → (h : HostState Env) (s : Env) → StandsBy o p.instance.automaton h s → holds p.instance v.condition h.inner ≡ holds (member_by o p).instance v.condition s
one_holds None p may v c h s r = ap (holds p.instance v.condition) r.1
one_holds (Some n) p may v c h s r =
    ap is_true (val_same p.instance.types spelled (over h.inner (formal_values p.instance)) (over s (formal_values (crashing n p.instance p.starts))) agree v.condition c)
  where
    agree : (x : Name) → spelled x ≡ true → or_else (h.inner x) (formal_values p.instance x) ≡ or_else (s x) (formal_values (crashing n p.instance p.starts) x)
    agree x k =
        ap (λ (u : Option Val). or_else u (formal_values p.instance x)) (r.agree x k)
        ∙ ap (λ (u : Option Val). or_else (s x) u) (sym (formals_same n p.instance p.starts may x k))

one_breaks : (o : Option CrashTree) (p : Host) → MayStand o p → (v : InvariantTree) → list_all spelled (names_of_expr v.condition) ≡ true
    → (h : HostState Env) (s : Env) → StandsBy o p.instance.automaton h s → breaks p.instance v h.inner ≡ breaks (member_by o p).instance v s
one_breaks o p may v c h s r =
    ap (λ (x : Name). bytes_eq v.automaton x && not (holds p.instance v.condition h.inner)) (sym (one_name o p))
    ∙ ap (λ b. bytes_eq v.automaton (member_by o p).instance.automaton.name && not b) (one_holds o p may v c h s r)

-- ---- what it is made of

proposals_same : (ts : List TransitionTree) → map proposing (map guarded ts) ≡ map proposing ts
proposals_same [] = refl
proposals_same (t ∷ ts) = ap (λ (us : List TransitionTree). proposing t ∷ us) (proposals_same ts)

one_made : (o : Option CrashTree) (p : Host) → MayStand o p → IsMadeBy o p (member_by o p)
one_made None p may = record {
  name = refl;
  entries = refl;
  actions = λ k e a at. refl;
  proposals = sym (append-nil (map proposing p.instance.automaton.transitions));
  proposes = λ k e h s words taken at r. ap (λ (t : Env). proposed p.instance e t words taken) (sym r.1);
  arguments = sym (append-nil p.instance.arguments);
  formals = λ x s. refl;
  variables = sym (append-nil p.instance.automaton.variables);
  declared = refl;
}
one_made (Some n) p may =
    let a = p.instance.automaton in
    record {
      name = refl;
      entries = refl;
      actions = λ k e act at. entry_same n p.instance p.starts may act e
          (all_at (λ (d : EntryTree). list_all spelled (names_of_entry d)) a.entries k e (names n p.instance p.starts may).entries at);
      proposals = map-append proposing (map guarded a.transitions) (crash_transition a.variables n.crash ∷ recover_transition n.recover ∷ [])
          ∙ ap (λ (ts : List TransitionTree). ts ++ added_proposals (Some n)) (proposals_same a.transitions);
      proposes = λ k e h s words taken at r. proposed_alike n p.instance p.starts may h s r words taken e k at;
      arguments = refl;
      formals = λ x s. formals_same n p.instance p.starts may x s;
      variables = refl;
      declared = refl;
    }

all_made : (hosts : List Host) → ((i : ℕ) (p : Host) → slice_get hosts i ≡ Some p → MayStand p.crash p) → AllZip IsMadeOf hosts (map member_for hosts)
all_made [] may = tt
all_made (p ∷ ps) may = (one_made p.crash p (may 0 p refl), all_made ps (λ i q at. may (suc i) q at))

-- ---- conditions

-- of spelled names, in states that agree on these
same_holds : (i : Instance) (e : Expr) → list_all spelled (names_of_expr e) ≡ true → (s t : Env) → ((x : Name) → spelled x ≡ true → s x ≡ t x) → holds i e s ≡ holds i e t
same_holds i e c s t same =
    ap is_true (val_same i.types spelled (over s (formal_values i)) (over t (formal_values i)) (λ x k. ap (λ (u : Option Val). or_else u (formal_values i x)) (same x k)) e c)

-- the formals of the component stand for what the host's do
same_formals : (o : Option CrashTree) (p : Host) → MayStand o p → (e : Expr) → list_all spelled (names_of_expr e) ≡ true → (s : Env)
    → holds (member_by o p).instance e s ≡ holds p.instance e s
same_formals None p may e c s = refl
same_formals (Some n) p may e c s =
    ap is_true (val_same p.instance.types spelled (over s (formal_values (crashing n p.instance p.starts))) (over s (formal_values p.instance))
    (λ x k. ap (λ (u : Option Val). or_else (s x) u) (formals_same n p.instance p.starts may x k)) e c)

pub none_spelled : (o : Option CrashTree) → list_all is_added (added_variables o) ≡ true
none_spelled None = refl
none_spelled (Some n) = refl

one_valued : (o : Option CrashTree) (p : Host) → MayStand o p → (e : Expr) → list_all spelled (names_of_expr e) ≡ true
    → (values more : List Val) → length values ≡ length p.instance.automaton.variables
    → holds (member_by o p).instance e (state_of (member_by o p).instance.automaton (values ++ more)) ≡ holds p.instance e (state_of p.instance.automaton values)
one_valued o p may e c values more l =
    same_formals o p may e c (state_of (member_by o p).instance.automaton (values ++ more))
    ∙ same_holds p.instance e c (state_of (member_by o p).instance.automaton (values ++ more)) (state_of p.instance.automaton values)
    (λ x k. ap (λ (vs : List VariableTree). values_of (map (λ (v : VariableTree). v.field.name) vs) (values ++ more) x) (one_made o p may).variables
    ∙ values_before p.instance.automaton.variables (added_variables o) values more x l (none_spelled o) k)

-- values of more names than there are
pub first_values : (ns : List Name) (vs : List Val) (x : Name) → values_of ns (take (length ns) vs) x ≡ values_of ns vs x
first_values [] vs x = refl
first_values (n ∷ ns) [] x = refl
first_values (n ∷ ns) (v ∷ vs) x = ap (λ (o : Option Val). if bytes_eq n x then Some v else o) (first_values ns vs x)

pub long_enough : (o : Option CrashTree) (n : ℕ) (up : Bool) (slots : List Val) → TellsUp o n up slots → length (take n slots) ≡ n
long_enough None n up slots t = let l : length slots ≡ n = t.0 in length-take-le n slots (omega arith)
long_enough (Some c) n up slots t = let l : length slots ≡ n + 1 = t.0 in length-take-le n slots (omega arith)

one_slotted : (o : Option CrashTree) (p : Host) → MayStand o p → (e : Expr) → list_all spelled (names_of_expr e) ≡ true
    → (h : HostState Env) (slots more : List Val) → SlotsHold p h slots
    → holds (member_by o p).instance e (state_of (member_by o p).instance.automaton (take (length p.instance.automaton.variables) slots ++ more)) ≡ holds p.instance e h.inner
one_slotted o p may e c h slots more k =
    let vs = p.instance.automaton.variables in
    one_valued o p may e c (take (length vs) slots) more (long_enough p.crash (length vs) h.up slots k.up)
    ∙ same_holds p.instance e c (state_of p.instance.automaton (take (length vs) slots)) h.inner
    (λ x s. ap (λ (n : ℕ). values_of (variable_names p.instance.automaton) (take n slots) x) (sym (length-map vs (λ (v : VariableTree). v.field.name)))
    ∙ first_values (variable_names p.instance.automaton) slots x ∙ sym (k.values x))

one_alike : (p : Host) → MayStand p.crash p → (v : InvariantTree) → list_all spelled (names_of_expr v.condition) ≡ true → HoldsAlike p (member_for p) v.condition
one_alike p may v c =
    let declared : (member_for p).declared ≡ length p.instance.automaton.variables = (one_made p.crash p may).declared in
    record {
      states = λ h s r. sym (one_holds p.crash p may v c h s r);
      values = λ values more l. one_valued p.crash p may v.condition c values more (l ∙ declared);
      slots = λ h slots more k.
          ap (λ (n : ℕ). holds (member_for p).instance v.condition (state_of (member_for p).instance.automaton (take n slots ++ more))) declared
          ∙ one_slotted p.crash p may v.condition c h slots more k;
    }

abbrev pub AreSpelled : List InvariantTree → Type 0
AreSpelled vs = All (λ v. list_all spelled (names_of_expr v.condition) ≡ true) vs

broken_one : (o : Option CrashTree) (p : Host) → MayStand o p → (k : ℕ) (vs : List InvariantTree) → AreSpelled vs
    → (h : HostState Env) (s : Env) → StandsBy o p.instance.automaton h s → broken_by k vs p.instance h.inner ≡ broken_by k vs (member_by o p).instance s
broken_one o p may k [] c h s r = refl
broken_one o p may k (v ∷ vs) c h s r =
    ap (λ b. cond b (Some k) (broken_by (k + 1) vs p.instance h.inner))
    (one_breaks o p may v (All-head (λ (u : InvariantTree). list_all spelled (names_of_expr u.condition) ≡ true) v vs c) h s r)
    ∙ ap (λ b. cond (breaks (member_by o p).instance v s) (Some k) b)
    (broken_one o p may (k + 1) vs (All-tail (λ (u : InvariantTree). list_all spelled (names_of_expr u.condition) ≡ true) v vs c) h s r)

-- ---- by place

-- the places of the rest of the hosts
abbrev IsRest : List Host → ℕ → List Host → Type 0
IsRest hosts i rest = (j : ℕ) → slice_get hosts (i + j) ≡ slice_get rest j

here : (hosts : List Host) (i : ℕ) (p : Host) (ps : List Host) → IsRest hosts i (p ∷ ps) → slice_get hosts i ≡ Some p
here hosts i p ps h = let none : i + 0 ≡ i = omega arith in sym (ap (slice_get hosts) none) ∙ h 0

later : (hosts : List Host) (i : ℕ) (p : Host) (ps : List Host) → IsRest hosts i (p ∷ ps) → IsRest hosts (i + 1) ps
later hosts i p ps h j = let e : i + 1 + j ≡ i + suc j = omega arith in ap (slice_get hosts) e ∙ h (suc j)

at_place : (hosts : List Host) (i : ℕ) (p : Host) → slice_get hosts i ≡ Some p → (h : HostState Env) (s : Env) → StandsFor p h s → StandsAt hosts i h s
at_place hosts i p e h s r q f = let same : p ≡ q = cc in subst (λ (u : Host). StandsFor u h s) same r

abbrev AllMay : List Host → Type 0
AllMay hosts = (i : ℕ) (p : Host) → slice_get hosts i ≡ Some p → MayStand p.crash p

all_like : (hosts : List Host) → AllMay hosts → (i : ℕ) (rest : List Host) → IsRest hosts i rest
    → AllLike (StandsAt hosts) i (map host_of rest) (map (λ (m : Member). component_of m.instance) (map member_for rest))
    × AllRelated (StandsAt hosts) i (map host_start rest) (map (λ (m : Member). state_of m.instance.automaton m.starts) (map member_for rest))
all_like hosts may i [] h = (tt, tt)
all_like hosts may i (p ∷ ps) h =
    let at = here hosts i p ps h in
    let fits = may i p at in
    let rest = all_like hosts may (i + 1) ps (later hosts i p ps h) in (
      (same_like (StandsFor p) (StandsAt hosts i) (host_of p) (component_of (member_for p).instance) (at_place hosts i p at) (λ s t r. r p at) (one_like p.crash p fits), rest.0),
      (at_place hosts i p at (host_start p) (state_of (member_for p).instance.automaton (member_for p).starts) (one_start p.crash p fits), rest.1),
    )

all_broken : (hosts : List Host) → AllMay hosts → (n : ℕ) (vs : List InvariantTree) → AreSpelled vs → (i : ℕ) (rest : List Host) → IsRest hosts i rest
    → (hs : List (HostState Env)) (ss : List Env) → AllRelated (StandsAt hosts) i hs ss
    → broken_from n i vs (map (λ (p : Host). p.instance) rest) (map (λ (h : HostState Env). h.inner) hs) ≡ broken_from n i vs (map (λ (m : Member). m.instance) (map member_for rest)) ss
all_broken hosts may n vs c i [] g hs ss r = refl
all_broken hosts may n vs c i (p ∷ ps) g [] [] r = refl
all_broken hosts may n vs c i (p ∷ ps) g [] (s ∷ ss) r = absurd r
all_broken hosts may n vs c i (p ∷ ps) g (h ∷ hs) [] r = absurd r
all_broken hosts may n vs c i (p ∷ ps) g (h ∷ hs) (s ∷ ss) r =
    let at = here hosts i p ps g in
    let told : Option ℕ → Option Broken = λ o. option_map (λ (k : ℕ). record { state = n; component = i; invariant = k }) o in
    ap (λ o. or_else (told o) (broken_from n (i + 1) vs (map (λ (p : Host). p.instance) ps) (map (λ (h : HostState Env). h.inner) hs)))
    (broken_one p.crash p (may i p at) 0 vs c h s (r.0 p at))
    ∙ ap (λ b. or_else (told (broken_by 0 vs (member_for p).instance s)) b) (all_broken hosts may n vs c (i + 1) ps (later hosts i p ps g) hs ss r.1)

same_automata : (hosts : List Host) → map (λ (i : Instance). i.automaton.name) (map (λ (m : Member). m.instance) (map member_for hosts)) ≡ map (λ (i : Instance). i.automaton.name) (map (λ (p : Host). p.instance) hosts)
same_automata [] = refl
same_automata (p ∷ ps) =
    ap (λ (x : Name). x ∷ map (λ (i : Instance). i.automaton.name) (map (λ (m : Member). m.instance) (map member_for ps))) (one_name p.crash p)
    ∙ ap (λ (ns : List Name). p.instance.automaton.name ∷ ns) (same_automata ps)

any_signal : (k : Kind → Bool) → k Input ≡ false → (n : CrashTree) (es : List EntryTree)
    → list_any (λ (e : EntryTree). k e.kind) (es ++ signals n) ≡ list_any (λ (e : EntryTree). k e.kind) es
any_signal k none n [] = ap (λ b. b || (b || false)) none
any_signal k none n (e ∷ es) = ap (λ b. k e.kind || b) (any_signal k none n es)

one_kind : (k : Kind → Bool) → k Input ≡ false → (o : Option CrashTree) (p : Host) → has_kind k (member_by o p).instance ≡ has_kind k p.instance
one_kind k none None p = refl
one_kind k none (Some n) p = any_signal k none n p.instance.automaton.entries

same_kinds : (k : Kind → Bool) → k Input ≡ false → (hosts : List Host)
    → map (has_kind k) (map (λ (m : Member). m.instance) (map member_for hosts)) ≡ map (has_kind k) (map (λ (p : Host). p.instance) hosts)
same_kinds k none [] = refl
same_kinds k none (p ∷ ps) =
    ap (λ (b : Bool). b ∷ map (has_kind k) (map (λ (m : Member). m.instance) (map member_for ps))) (one_kind k none p.crash p)
    ∙ ap (λ (bs : List Bool). has_kind k p.instance ∷ bs) (same_kinds k none ps)

all_hold : (hosts : List Host) → AllMay hosts → (i : ℕ) (p : Host) (m : Member) → slice_get hosts i ≡ Some p → slice_get (map member_for hosts) i ≡ Some m → HoldsWith p m
all_hold hosts may i p m at there h s slots r l v =
    let same : Some m ≡ Some (member_for p) = sym there ∙ slice_get-map member_for hosts i ∙ ap (option_map member_for) at in
    let is : m ≡ member_for p = cc in
    let k = one_holding p.crash p (may i p at) h s slots r (l ∙ ap (λ (u : Member). length (variable_names u.instance.automaton)) is) (λ x. v x ∙ ap (λ (u : Member). values_of (variable_names u.instance.automaton) slots x) is) in
    record { values = k.0; up = k.1 }

all_alike : (hosts : List Host) → AllMay hosts → (vs : List InvariantTree) → AreSpelled vs → (i k : ℕ) (p : Host) (m : Member) (v : InvariantTree)
    → slice_get hosts i ≡ Some p → slice_get (map member_for hosts) i ≡ Some m → slice_get vs k ≡ Some v → HoldsAlike p m v.condition
all_alike hosts may vs c i k p m v at there stated =
    let same : Some (member_for p) ≡ Some m = sym (slice_get-map member_for hosts i ∙ ap (option_map member_for) at) ∙ there in
    let is : member_for p ≡ m = cc in
    subst (λ (u : Member). HoldsAlike p u v.condition) is
    (one_alike p (may i p at) v (all_found (λ (u : InvariantTree). list_all spelled (names_of_expr u.condition) ≡ true) vs k v c stated))

all_held : (hosts : List Host) → AllMay hosts → (i : ℕ) (p : Host) (m : Member) → slice_get hosts i ≡ Some p → slice_get (map member_for hosts) i ≡ Some m → HeldWith p m
all_held hosts may i p m at there h slots k =
    let same : Some m ≡ Some (member_for p) = sym there ∙ slice_get-map member_for hosts i ∙ ap (option_map member_for) at in
    let is : m ≡ member_for p = cc in
    let w = one_held p.crash p (may i p at) h slots k.values k.up in
    (w.0, w.1, λ x. w.2 x ∙ sym (ap (λ (u : Member). values_of (variable_names u.instance.automaton) slots x) is))

pub rewriting_stands : RewritingSimulates
rewriting_stands h may c =
    let whole : IsRest h.hosts 0 h.hosts = λ j. let e : 0 + j ≡ j = omega arith in ap (slice_get h.hosts) e in
    let k = all_like h.hosts may 0 h.hosts whole in
    record {
      types = refl;
      name = refl;
      hidden = refl;
      invariants = refl;
      members = all_made h.hosts may;
      automata = same_automata h.hosts;
      kinds = λ k none. same_kinds k none h.hosts;
      like = k.0;
      start = k.1;
      slots = all_hold h.hosts may;
      conditions = all_alike h.hosts may h.invariants c;
      held = all_held h.hosts may;
      broken = λ n hs ss r. all_broken h.hosts may n h.invariants c 0 h.hosts whole hs ss r;
    }

-- ---- what follows

module _ (h : Hosted) (c : Composed) (s : Simulates h c) where
  -- the same actions performed, the same end, and states that stand for one another
  pub stands_run : (acts : List Act) → RunsLike (StandsAt h.hosts) (run (hosts_of h) acts (host_starts h)) (run (components_of c) acts (starts_of c))
  stands_run acts = run_like (StandsAt h.hosts) (hosts_of h) (components_of c) acts (host_starts h) (starts_of c) s.like s.start

  pub stands_trace : (hidden : List Name) (acts : List Act) (n : ℕ) → trace hidden (hosts_of h) acts n ≡ trace hidden (components_of c) acts n
  stands_trace hidden acts n = trace_like (StandsAt h.hosts) hidden (hosts_of h) (components_of c) acts n s.like

  pub stands_owner : (a : Act) → owner (hosts_of h) a ≡ owner (components_of c) a
  stands_owner a = owner_like (StandsAt h.hosts) 0 (hosts_of h) (components_of c) a s.like

  pub stands_participants : (a : Act) → participants (hosts_of h) a ≡ participants (components_of c) a
  stands_participants a = participants_like (StandsAt h.hosts) 0 (hosts_of h) (components_of c) a s.like

  pub stands_external : (hidden : List Name) (a : Act) → is_external hidden (hosts_of h) a ≡ is_external hidden (components_of c) a
  stands_external hidden a = external_like (StandsAt h.hosts) 0 hidden (hosts_of h) (components_of c) a s.like

  pub stands_compatible : Compatible (hosts_of h) → Compatible (components_of c)
  stands_compatible = same_compatible (hosts_of h) (components_of c) (like_kinds (StandsAt h.hosts) 0 (hosts_of h) (components_of c) s.like)

  pub hosts_compatible : Compatible (components_of c) → Compatible (hosts_of h)
  hosts_compatible =
      same_compatible (components_of c) (hosts_of h) (kinds_back (hosts_of h) (components_of c) (like_kinds (StandsAt h.hosts) 0 (hosts_of h) (components_of c) s.like))

  -- the first invariant that is broken along a run
  pub stands_broken : (acts : List Act) → first_broken_host h acts ≡ first_broken c acts
  stands_broken acts =
      first_like (StandsAt h.hosts) (hosts_of h) (components_of c) (broken_hosts h) (broken_at c) s.like s.broken 0 acts (host_starts h) (starts_of c) s.start
