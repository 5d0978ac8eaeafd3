-- What a program's workers do is what those of whatever it runs as do.
use Rattle.std.proofs.Common.{◌≡◌, ℕ, zero, suc, ◌+◌, Bool, true, false, cond, not, ◌||◌, if◌then◌else◌, List, [], ◌∷◌, ◌++◌, length, map, filter, All, Option, Some, None, IfSome, Result, Ok, refl, sym, ap, subst, ◌∙◌, arith}
use Rattle.std.specs.Prelude.{slice_get}
use Rattle.std.specs.List.{AllZip}
use Rattle.std.specs.Option.{option_map}
use Rattle.std.specs.Str.{bytes_eq}
use Rattle.std.proofs.lemmas.Bool.{and_parts}
use Rattle.std.proofs.lemmas.List.{length-map, map-append}
use Rattle.std.proofs.lemmas.Option.{slice_get-map}
use mathlib.Core.Path.{fun_ext}
use Rattle.ioa_value.specs.Actions.{Name, Act}
use Rattle.ioa_value.specs.Plain.{Val, truth}
use Rattle.ioa_value.specs.Positions.{IsDomain}
use Rattle.ioa_value.specs.Table.{AreTypes, contains, distinct}
use Rattle.ioa_value.specs.Typing.{HaveTypes}
use Rattle.ioa_value.proofs.ItemLemmas.{get_append}
use Rattle.ioa_value.proofs.NameLemmas.{not_true, own_name, same_name}
use Rattle.ioa_code.specs.Valid.{Part}
use Rattle.ioa_tree.specs.declared.tree.Kind.{Kind}
use Rattle.ioa_tree.specs.declared.tree.Kind.TheVariants.{Input, Output, Internal}
use Rattle.ioa_tree.specs.Components.{Component, is_local}
use Rattle.ioa_tree.specs.Compositions.{Composed, Member, automaton_named}
use Rattle.ioa_tree.specs.Domains.{AreDomainsOf}
use Rattle.ioa_tree.specs.Hosts.{AreHosts, Host, HostState, Hosted, host_state}
use Rattle.ioa_tree.specs.Instances.{field_names, variable_names}
use Rattle.ioa_tree.specs.Likes.{AllRelated, MovesLike}
use Rattle.ioa_tree.specs.Meaning.{Env, values_of}
use Rattle.ioa_tree.specs.Proposing.{Words, proposed}
use Rattle.ioa_tree.specs.Runs.{run}
use Rattle.ioa_tree.specs.Steps.{step}
use Rattle.ioa_tree.specs.Tree.{CrashTree, AutomatonTree, EntryTree, InstanceTree, SourceTree}
use Rattle.ioa_tree.specs.Types.{types_of}
use Rattle.ioa_tree.specs.WellFormed.{global_names}
use Rattle.ioa_tree.proofs.FineParts.{fine_parts}
use Rattle.ioa_crash.specs.Rewriting.{signals, with_signals}
use Rattle.ioa_compose.specs.Simulates.{SlotsHold, IsMadeOf, Simulates, TellsUp}
use Rattle.ioa_clash.proofs.ZipLemmas.{zip-at, zip-to}
use Rattle.ioa_compose.proofs.SourceLemmas.{named_fine}
use Rattle.ioa_compile.specs.CodeEnds.{ProposalEnds}
use Rattle.ioa_compile.specs.Correspondence.{Corresponds, CorrespondsAt, CorrespondsIn}
use Rattle.ioa_compile.specs.Matching.{MatchesEntry, MatchesMember}
use Rattle.ioa_compile.specs.Implements.{Implements}
use Rattle.ioa_compile.specs.Programs.{EntryCode, MemberCode, Prog}
use Rattle.ioa_compile.specs.Subjects.{HoldsIn, HoldsTyped, InSlots, RunsAs, State, Subject, its_components, its_names, its_starts, of_composition, of_hosts, of_table}
use Rattle.ioa_compile.specs.Tables.{AreEntries, AreMembers, HasPropose, IsEntry, IsMember, IsProgram, start_states, tabled}
use Rattle.ioa_compile.proofs.HostEntries.{entries_are_the_hosts}
use Rattle.ioa_compile.proofs.Subjects.{as_many, does_as, participants_as, step_as}
use Rattle.ioa_parts.specs.Nodes.{Node}
use Rattle.ioa_system.specs.Logs.{Logged, worker}
use Rattle.ioa_system.specs.declared.log.LogEnd.{LogEnd}
use Rattle.ioa_system.specs.declared.log.LogEntry.{LogEntry}
use Rattle.ioa_system.proofs.Subjects.{worker_as}
use Rattle.ioa_run.specs.Alone.{turns_since}
use Rattle.ioa_board.specs.Boards.{Failure, IsFailureFrom, IsSound, Standing}
use Rattle.ioa_board.specs.Histories.{GoesOn, acts_of, since}
use Rattle.ioa_board.specs.Outcomes.{IsLogOf, ending, with_faulted}
use Rattle.ioa_board.specs.Planning.{answer_of, intent_of}
use Rattle.ioa_run.specs.Played.{events_since}
use Rattle.ioa_run.specs.Proposers.{by_code, by_entry, filled, filled_in, host_proposers_of, its_proposers, member_proposers_of, proposers, proposers_of}
use Rattle.ioa_board.specs.Reports.{AreTold}
use Rattle.ioa_board.specs.Resuming.{resumption}
use Rattle.ioa_run.specs.Subjects.{AreApart, AreResumed, BoardsLike, HostsApart, IsLogAs, ProgramHistory, ProgramSchedule, ResumedLike, SameAlone, SameCopy, SameEvents, SameOutcome, SameResumption, SameTurns, SubjectHistory, SubjectSchedule, TurnsLike}
use Rattle.ioa_board.specs.declared.run_err.RunErr.{RunErr}
use Rattle.ioa_run.specs.Turns.{Proposer, after}
use Rattle.ioa_run.proofs.Alike.{Both, OneLike, ProposeLike, alone_like, events_like, sound_back, sound_on}
use Rattle.ioa_run.proofs.AlikeSchedules.{copy_like, schedules_back, schedules_on}
use Rattle.ioa_board.proofs.Finishing.{faulted_last}
use Rattle.ioa_run.proofs.HostProposals.{by_alike, filled_alike}
use Rattle.ioa_run.proofs.Lengths.{resumed_long}
use Rattle.ioa_board.proofs.Performing.{legal_run}
use Rattle.ioa_run.proofs.ResumedLike.{resumption_like}
use Rattle.ioa_board.proofs.PlannedNow.{planned_now}

some_same : {X : Type 0} (o : Option X) (x y : X) → o ≡ Some x → o ≡ Some y → x ≡ y
some_same o x y e f = let g : Some x ≡ Some y = sym e ∙ f in cc

-- ---- a host's state, by its slots

up_once : (o : Option CrashTree) (n : ℕ) (a b : Bool) (slots : List Val) → TellsUp o n a slots → TellsUp o n b slots → a ≡ b
up_once None n a b slots h k = h.1 ∙ sym k.1
up_once (Some c) n a b slots h k = let e : truth a ≡ truth b = some_same (slice_get slots n) (truth a) (truth b) h.1 k.1 in cc

holds_once : (p : Host) (x y : HostState Env) (slots : List Val) → SlotsHold p x slots → SlotsHold p y slots → x ≡ y
holds_once p x y slots h k =
    let up : x.up ≡ y.up = up_once p.crash (length p.instance.automaton.variables) x.up y.up slots h.up k.up in
    let inner : x.inner ≡ y.inner = fun_ext (λ n. h.values n ∙ sym (k.values n)) in
    ap (λ b. host_state b x.inner) up ∙ ap (host_state y.up) inner

-- ---- the slots that hold a host's state

-- a value for each name, and then what is so
abbrev Behind : (List Val → Type 0) → List Name → List Val → Type 0
Behind rest [] vs = rest vs
Behind rest (n ∷ ns) [] = ⊥
Behind rest (n ∷ ns) (v ∷ vs) = Behind rest ns vs

no_more_values : (ns : List Name) (vs : List Val) → length vs ≡ length ns → Behind (λ us. us ≡ []) ns vs
no_more_values [] [] l = refl
no_more_values [] (v ∷ vs) l = absurd (cc)
no_more_values (n ∷ ns) [] l = absurd (cc)
no_more_values (n ∷ ns) (v ∷ vs) l = no_more_values ns vs (omega (arith, l))

one_more_value : (ns : List Name) (vs : List Val) (u : Val) → length vs ≡ length ns + 1 → slice_get vs (length ns) ≡ Some u → Behind (λ us. us ≡ u ∷ []) ns vs
one_more_value [] [] u l e = absurd (cc)
one_more_value [] (v ∷ []) u l e = let q : v ≡ u = cc in ap (λ x. x ∷ []) q
one_more_value [] (v ∷ w ∷ vs) u l e = absurd (omega (arith, l))
one_more_value (n ∷ ns) [] u l e = absurd (omega (arith, l))
one_more_value (n ∷ ns) (v ∷ vs) u l e = one_more_value ns vs u (omega (arith, l)) e

-- a name that is not there has no value
no_value : (ns : List Name) (vs : List Val) (x : Name) → contains ns x ≡ false → values_of ns vs x ≡ None
no_value [] vs x h = refl
no_value (n ∷ ns) [] x h = refl
no_value (n ∷ ns) (v ∷ vs) x h = go (bytes_eq n x) h (λ k. no_value ns vs x k)
  where
    go : (b : Bool) → (b || contains ns x) ≡ false → (contains ns x ≡ false → values_of ns vs x ≡ None) → (if b then Some v else values_of ns vs x) ≡ None
    go true k rest = absurd (cc)
    go false k rest = rest k

-- values of different names, and what stands behind them, are the same where names have the same values
slots_alike : (ns : List Name) (rest : List Val → Type 0) → ((as' bs : List Val) → rest as' → rest bs → as' ≡ bs) → (as' bs : List Val) → distinct ns ≡ true
    → Behind rest ns as' → Behind rest ns bs → ((x : Name) → values_of ns as' x ≡ values_of ns bs x) → as' ≡ bs
slots_alike [] rest once as' bs d h k e = once as' bs h k
slots_alike (n ∷ ns) rest once [] bs d h k e = absurd h
slots_alike (n ∷ ns) rest once (a ∷ as') [] d h k e = absurd k
slots_alike (n ∷ ns) rest once (a ∷ as') (b ∷ bs) d h k e =
    let parts = and_parts (not (contains ns n)) (distinct ns) d in
    let here : Some a ≡ Some b = sym (own a as') ∙ e n ∙ own b bs in
    let first : a ≡ b = cc in
    let more : as' ≡ bs = slots_alike ns rest once as' bs parts.1 h k (later (not_true (contains ns n) parts.0)) in
    cc
  where
    own : (v : Val) (vs : List Val) → values_of (n ∷ ns) (v ∷ vs) n ≡ Some v
    own v vs = ap (λ (c : Bool). if c then Some v else values_of ns vs n) (own_name n)

    later : contains ns n ≡ false → (x : Name) → values_of ns as' x ≡ values_of ns bs x
    later new x = go (bytes_eq n x) refl (e x)
      where
        go : (c : Bool) → bytes_eq n x ≡ c → (if c then Some a else values_of ns as' x) ≡ (if c then Some b else values_of ns bs x) → values_of ns as' x ≡ values_of ns bs x
        go true q h = subst (λ y. values_of ns as' y ≡ values_of ns bs y) (same_name n x q) (no_value ns as' n new ∙ sym (no_value ns bs n new))
        go false q h = h

held_in : (o : Option Host) (q : Option MemberCode) (x y : HostState Env) (slots : List Val) → HoldsIn o q x slots → HoldsIn o q y slots → x ≡ y
held_in (Some p) (Some m) x y slots h k = holds_once p x y slots h.0 k.0
held_in (Some p) None x y slots h k = absurd h
held_in None (Some m) x y slots h k = absurd h
held_in None None x y slots h k = absurd h

corresponds_once : (o : Option Member) (x y : Env) (slots : List Val) → CorrespondsIn o x slots → CorrespondsIn o y slots → x ≡ y
corresponds_once (Some m) x y slots h k = fun_ext (λ n. h.values n ∙ sym (k.values n))
corresponds_once None x y slots h k = absurd h

-- slots hold one state of a component
in_once : (p : Prog) (s : Subject) (i : ℕ) (x y : State s) (slots : List Val) → InSlots p s i x slots → InSlots p s i y slots → x ≡ y
in_once p (of_hosts h) i x y slots r q = held_in (slice_get h.hosts i) (slice_get p.members i) x y slots r q
in_once p (of_composition c) i x y slots r q = corresponds_once (slice_get c.members i) x y slots r q
in_once p (of_table t) i x y slots r q = r ∙ sym q

all_once : {S T : Type 0} (R : ℕ → S → T → Type 0) → ((i : ℕ) (x y : S) (a : T) → R i x a → R i y a → x ≡ y)
    → (i : ℕ) (xs ys : List S) (slots : List T) → AllRelated R i xs slots → AllRelated R i ys slots → xs ≡ ys
all_once R once i [] [] slots h k = refl
all_once R once i [] (y ∷ ys) [] h k = absurd k
all_once R once i [] (y ∷ ys) (s ∷ slots) h k = absurd h
all_once R once i (x ∷ xs) [] [] h k = absurd h
all_once R once i (x ∷ xs) [] (s ∷ slots) h k = absurd k
all_once R once i (x ∷ xs) (y ∷ ys) [] h k = absurd h
all_once R once i (x ∷ xs) (y ∷ ys) (s ∷ slots) h k =
    let here : x ≡ y = once i x y s h.0 k.0 in
    let rest : xs ≡ ys = all_once R once (i + 1) xs ys slots h.1 k.1 in
    cc

same_once : (p : Prog) (s : Subject) (i : ℕ) (x y : State s) (as' bs : List Val) → InSlots p s i x as' → InSlots p s i y bs → as' ≡ bs → x ≡ y
same_once p s i x y as' bs r q e = in_once p s i x y as' r (subst (InSlots p s i y) (sym e) q)

-- variables of a well formed automaton have different names
later_distinct : (xs ys : List Name) → distinct (xs ++ ys) ≡ true → distinct ys ≡ true
later_distinct [] ys d = d
later_distinct (x ∷ xs) ys d = later_distinct xs ys (and_parts (not (contains (xs ++ ys) x)) (distinct (xs ++ ys)) d).1

named_host : (s : SourceTree) (is : List InstanceTree) (hs : List Host) (i : ℕ) (p : Host) → AreHosts s is hs → slice_get hs i ≡ Some p
    → (x : Name) × (automaton_named s x ≡ Some p.instance.automaton)
named_host s [] [] i p h e = absurd (cc)
named_host s [] (q ∷ hs) i p h e = absurd h
named_host s (t ∷ is) [] i p h e = absurd h
named_host s (t ∷ is) (q ∷ hs) zero p h e =
    let same : q ≡ p = cc in
    (t.automaton, subst (λ (y : Host). automaton_named s t.automaton ≡ Some y.instance.automaton) same h.0.automaton)
named_host s (t ∷ is) (q ∷ hs) (suc i) p h e = named_host s is hs i p h.1 e

pub hosts_apart : HostsApart
hosts_apart s t h fine hosted i p at =
    let a : AutomatonTree = p.instance.automaton in
    let n = named_host s t.instances h.hosts i p hosted.hosts at in
    let parts = fine_parts (types_of s) (types_of s) (global_names s) a (named_fine s n.0 a fine n.1) in
    later_distinct (field_names a.formals) (variable_names a) parts.distinct_names

as_named : (p : Host) → length (variable_names p.instance.automaton) ≡ length p.instance.automaton.variables
as_named p = length-map p.instance.automaton.variables (λ v. v.field.name)

tells_alike : (p : Host) (o : Option CrashTree) (up : Bool) (as' bs : List Val) → distinct (variable_names p.instance.automaton) ≡ true
    → TellsUp o (length p.instance.automaton.variables) up as' → TellsUp o (length p.instance.automaton.variables) up bs
    → ((x : Name) → values_of (variable_names p.instance.automaton) as' x ≡ values_of (variable_names p.instance.automaton) bs x) → as' ≡ bs
tells_alike p None up as' bs d h k e =
    let ns : List Name = variable_names p.instance.automaton in
    slots_alike ns (λ us. us ≡ []) (λ x y i j. i ∙ sym j) as' bs d (no_more_values ns as' (h.0 ∙ sym (as_named p))) (no_more_values ns bs (k.0 ∙ sym (as_named p))) e
tells_alike p (Some c) up as' bs d h k e =
    let ns : List Name = variable_names p.instance.automaton in
    let n : length p.instance.automaton.variables ≡ length ns = sym (as_named p) in
    slots_alike ns (λ us. us ≡ truth up ∷ []) (λ x y i j. i ∙ sym j) as' bs d
    (one_more_value ns as' (truth up) (h.0 ∙ ap (λ m. m + 1) n) (subst (λ m. slice_get as' m ≡ Some (truth up)) n h.1))
    (one_more_value ns bs (truth up) (k.0 ∙ ap (λ m. m + 1) n) (subst (λ m. slice_get bs m ≡ Some (truth up)) n k.1)) e

holds_apart : (p : Host) (x y : HostState Env) (as' bs : List Val) → distinct (variable_names p.instance.automaton) ≡ true → SlotsHold p x as' → SlotsHold p y bs → x ≡ y → as' ≡ bs
holds_apart p x y as' bs d h k e =
    tells_alike p p.crash x.up as' bs d h.up (subst (λ u. TellsUp p.crash (length p.instance.automaton.variables) u bs) (ap (λ (s : HostState Env). s.up) (sym e)) k.up)
    (λ n. sym (h.values n) ∙ ap (λ (s : HostState Env). s.inner n) e ∙ k.values n)

held_apart : (h : Hosted) → AreApart (of_hosts h) → (ms : List MemberCode) (i : ℕ) (x y : HostState Env) (as' bs : List Val)
    → HoldsTyped h.hosts ms i x as' → HoldsTyped h.hosts ms i y bs → x ≡ y → as' ≡ bs
held_apart h apart ms i x y as' bs r q e = go (slice_get h.hosts i) refl (slice_get ms i) r q
  where
    go : (o : Option Host) → slice_get h.hosts i ≡ o → (k : Option MemberCode) → HoldsIn o k x as' → HoldsIn o k y bs → as' ≡ bs
    go (Some p) at (Some m) r q = holds_apart p x y as' bs (apart i p at) r.0 q.0 e
    go (Some p) at None r q = absurd r
    go None at (Some m) r q = absurd r
    go None at None r q = absurd r

corresponds_apart : (c : Composed) → AreApart (of_composition c) → (i : ℕ) (x y : Env) (as' bs : List Val) → CorrespondsAt c.members i x as' → CorrespondsAt c.members i y bs → x ≡ y → as' ≡ bs
corresponds_apart c apart i x y as' bs r q e = go (slice_get c.members i) refl r q
  where
    go : (o : Option Member) → slice_get c.members i ≡ o → CorrespondsIn o x as' → CorrespondsIn o y bs → as' ≡ bs
    go (Some m) at r q =
        let ns : List Name = variable_names m.instance.automaton in
        slots_alike ns (λ us. us ≡ []) (λ u v j k. j ∙ sym k) as' bs (apart i m at) (no_more_values ns as' (as_many m.instance as' r.typed)) (no_more_values ns bs (as_many m.instance bs q.typed))
        (λ n. sym (r.values n) ∙ ap (λ (s : Env). s n) e ∙ q.values n)
    go None at r q = absurd r

-- and where the names of a component's variables differ, one state stands in the same slots
same_apart : (p : Prog) (s : Subject) → AreApart s → (i : ℕ) (x y : State s) (as' bs : List Val) → InSlots p s i x as' → InSlots p s i y bs → x ≡ y → as' ≡ bs
same_apart p (of_hosts h) apart i x y as' bs r q e = held_apart h apart p.members i x y as' bs r q e
same_apart p (of_composition c) apart i x y as' bs r q e = corresponds_apart c apart i x y as' bs r q e
same_apart p (of_table t) apart i x y as' bs r q e = sym r ∙ e ∙ q

-- ---- items of a program's table

member_at : {T : Type 0} (P : T → Type 0) (All' : List T → Type 0) → ((x : T) (xs : List T) → All' (x ∷ xs) → P x × All' xs) → (xs : List T) (i : ℕ) (x : T) → All' xs → slice_get xs i ≡ Some x → P x
member_at P All' part [] i x h e = absurd (cc)
member_at P All' part (y ∷ xs) zero x h e = let q : y ≡ x = cc in subst P q (part y xs h).0
member_at P All' part (y ∷ xs) (suc i) x h e = member_at P All' part xs i x (part y xs h).1 e

-- the host's own stand first
first_entries : (o : Option CrashTree) (a : AutomatonTree) (k : ℕ) (e : EntryTree) → slice_get a.entries k ≡ Some e → slice_get (with_signals o a).entries k ≡ Some e
first_entries None a k e h = h
first_entries (Some n) a k e h = get_append a.entries (signals n) k e h

-- an entry behind the host's own is a signal, and so an input
signal_not_local : (o : Option CrashTree) (a : AutomatonTree) (k : ℕ) (e : EntryTree) → slice_get a.entries k ≡ None → slice_get (with_signals o a).entries k ≡ Some e
    → is_local (Some e.kind) ≡ false
signal_not_local None a k e n s = let q : None ≡ Some e = sym n ∙ s in absurd (cc)
signal_not_local (Some c) a k e n s = behind a.entries k n s
  where
    of_signals : (j : ℕ) → slice_get (signals c) j ≡ Some e → is_local (Some e.kind) ≡ false
    of_signals zero s = let q : Input ≡ e.kind = cc in ap (λ x. is_local (Some x)) (sym q)
    of_signals (suc zero) s = let q : Input ≡ e.kind = cc in ap (λ x. is_local (Some x)) (sym q)
    of_signals (suc (suc j)) s = absurd (cc)

    behind : (es : List EntryTree) (k : ℕ) → slice_get es k ≡ None → slice_get (es ++ signals c) k ≡ Some e → is_local (Some e.kind) ≡ false
    behind [] k n s = of_signals k s
    behind (x ∷ es) zero n s = absurd (cc)
    behind (x ∷ es) (suc k) n s = behind es k n s

-- a local entry has code for its proposals
has_code : (m : MemberCode) (d : EntryCode) (k : Kind) (o : Option Part) → is_local (Some k) ≡ true → HasPropose m d k o → (part : Part) × (o ≡ Some part)
has_code m d Input o l h = absurd (cc)
has_code m d Output None l h = absurd h
has_code m d Output (Some part) l h = (part, refl)
has_code m d Internal None l h = absurd h
has_code m d Internal (Some part) l h = (part, refl)

-- ---- what the entries of one component propose

module _ {S T E D : Type 0} (R : S → T → Type 0) (f : E → Proposer S) (g : D → Proposer T) (left : E → Bool) (right : D → Bool) where
  -- of the same kind, and where they are local they propose alike
  record Pair (e : E) (d : D) : Type 0 where
    kind : right d ≡ left e
    like : left e ≡ true → OneLike R (f e) (g d)

  pairs : (es : List E) (ds : List D) → ((k : ℕ) (e : E) → slice_get es k ≡ Some e → (d : D) × (slice_get ds k ≡ Some d) × Pair e d)
      → ((k : ℕ) (d : D) → slice_get es k ≡ None → slice_get ds k ≡ Some d → right d ≡ false) → AllZip (OneLike R) (map f (filter left es)) (map g (filter right ds))
  pairs [] [] own others = tt
  pairs [] (d ∷ ds) own others =
      subst (λ b. AllZip (OneLike R) [] (map g (cond b (d ∷ filter right ds) (filter right ds)))) (sym (others 0 d refl refl))
      (pairs [] ds (λ k e h. absurd (cc)) (λ k x n h. others (suc k) x refl h))
  pairs (e ∷ es) [] own others = let p = own 0 e refl in absurd (none p.0 p.1)
    where
      none : (d : D) → slice_get {X = D} [] 0 ≡ Some d → ⊥
      none d h = absurd (cc)
  pairs (e ∷ es) (d ∷ ds) own others =
      let first = own 0 e refl in
      let same : d ≡ first.0 = some_same (Some d) d first.0 refl first.1 in
      let pair : Pair e d = subst (Pair e) (sym same) first.2 in
      go (left e) refl (right d) refl pair (pairs es ds (λ k x h. own (suc k) x h) (λ k x n h. others (suc k) x n h))
    where
      go : (a : Bool) → left e ≡ a → (b : Bool) → right d ≡ b → Pair e d → AllZip (OneLike R) (map f (filter left es)) (map g (filter right ds))
          → AllZip (OneLike R) (map f (cond a (e ∷ filter left es) (filter left es))) (map g (cond b (d ∷ filter right ds) (filter right ds)))
      go true x true y p rest = (p.like x, rest)
      go true x false y p rest = let q : false ≡ true = sym y ∙ p.kind ∙ x in absurd (cc)
      go false x true y p rest = let q : true ≡ false = sym y ∙ p.kind ∙ x in absurd (cc)
      go false x false y p rest = rest

module _ (p : Prog) (h : Hosted) (c : Composed) (program : IsProgram p) (stands : Simulates h c) (means : Implements p c) where
  module _ (w : ℕ) (host : Host) (m : MemberCode) (at : slice_get h.hosts w ≡ Some host) (there : slice_get p.members w ≡ Some m) where
    member : IsMember p.types m
    member = member_at (IsMember p.types) (AreMembers p.types) (λ x xs a. a) p.members w m program.members there

    entry_in : (k : ℕ) (d : EntryCode) → slice_get m.entries k ≡ Some d → IsEntry m d
    entry_in k d e = member_at (IsEntry m) (AreEntries m) (λ x xs a. a) m.entries k d member.entries e

    made : (cm : Member) × (slice_get c.members w ≡ Some cm) × MatchesMember cm m
    made = zip-to MatchesMember c.members p.members w m means.tables there

    of_host : IsMadeOf host made.0
    of_host =
        let q = zip-to IsMadeOf h.hosts c.members w made.0 stands.members made.1 in
        subst (λ x. IsMadeOf x made.0) (some_same (slice_get h.hosts w) q.0 host q.1 at) q.2

    related : (s : HostState Env) (slots : List Val) → HoldsTyped h.hosts p.members w s slots → SlotsHold host s slots × HaveTypes m.start.table slots m.start.types
    related s slots r = subst (λ o. HoldsIn (Some host) o s slots) there (subst (λ o. HoldsIn o (slice_get p.members w) s slots) at r)

    entry_like : (k : ℕ) (e : EntryTree) → slice_get host.instance.automaton.entries k ≡ Some e
        → (d : EntryCode) × (slice_get m.entries k ≡ Some d) × Pair (HoldsTyped h.hosts p.members w) (λ (e : EntryTree) (s : HostState Env). by_entry host.instance e s.inner) (λ d. by_code d d.propose) (λ e. is_local (Some e.kind)) (λ d. is_local (Some d.kind)) e d
    entry_like k e here =
        let mine = entries_are_the_hosts p h c stands means w k host e m at here there in
        let d = mine.0 in
        let own = mine.2 in
        let is = entry_in k d mine.1 in
        let found = zip-to (MatchesEntry made.0) made.0.instance.automaton.entries m.entries k d made.2.entries mine.1 in (
          d,
          mine.1,
          record {
            kind = ap (λ x. is_local (Some x)) own.kind;
            like = λ local s slots words n r.
                let code = has_code m d d.kind d.propose (ap (λ x. is_local (Some x)) own.kind ∙ local) is.propose in
                let held = related s slots r in
                let ends : ProposalEnds code.0 slots (after n words) (proposed host.instance e s.inner (after n words) 0) =
                subst (λ o. IfSome o (λ part. (x : HostState Env) (vs : List Val) (ws : Words) → SlotsHold host x vs → HaveTypes m.start.table vs m.start.types → ProposalEnds part vs ws (proposed host.instance e x.inner ws 0))) code.1 own.propose
                s slots (after n words) held.0 held.1 in
                by_alike host.instance e d code.0 s.inner slots words n own.name (fills d own.name is mine.1) ends ∙ sym (ap (λ o. by_code d o slots words n) code.1);
          },
        )
      where
        fills : (d : EntryCode) → d.name ≡ e.name → IsEntry m d → slice_get m.entries k ≡ Some d → (vs : List Val) → filled_in host.instance e.positions vs ≡ filled d.positions vs
        fills d name is has vs =
            let cm = made.0 in
            let found = zip-to (MatchesEntry cm) cm.instance.automaton.entries m.entries k d made.2.entries has in
            let first : slice_get cm.instance.automaton.entries k ≡ Some e = ap (λ (es : List EntryTree). slice_get es k) of_host.entries ∙ first_entries host.crash host.instance.automaton k e here in
            let q : found.0 ≡ e = some_same (slice_get cm.instance.automaton.entries k) found.0 e found.1 first in
            let domains : AreDomainsOf cm.instance e.positions d.positions = subst (λ (x : EntryTree). AreDomainsOf cm.instance x.positions d.positions) q found.2.positions in
            let types : m.start.table ≡ cm.instance.types = made.2.types in
            let declared : AreTypes cm.instance.types = subst AreTypes (sym member.types_are ∙ types) program.types in
            let are : All (IsDomain cm.instance.types) d.positions = subst (λ t. All (IsDomain t) d.positions) types is.positions in
            filled_alike cm.instance host.instance e d.positions vs declared are domains (λ a. of_host.actions k e a here)

    no_more : (k : ℕ) (d : EntryCode) → slice_get host.instance.automaton.entries k ≡ None → slice_get m.entries k ≡ Some d → is_local (Some d.kind) ≡ false
    no_more k d n e =
        let cm = made.0 in
        let found = zip-to (MatchesEntry cm) cm.instance.automaton.entries m.entries k d made.2.entries e in
        let in_tree : slice_get (with_signals host.crash host.instance.automaton).entries k ≡ Some found.0 = ap (λ (es : List EntryTree). slice_get es k) (sym of_host.entries) ∙ found.1 in
        ap (λ x. is_local (Some x)) found.2.kind ∙ signal_not_local host.crash host.instance.automaton k found.0 n in_tree

    component_like : AllZip (OneLike (HoldsTyped h.hosts p.members w)) (host_proposers_of host) (proposers_of m)
    component_like =
        pairs (HoldsTyped h.hosts p.members w) (λ (e : EntryTree) (s : HostState Env). by_entry host.instance e s.inner) (λ d. by_code d d.propose) (λ e. is_local (Some e.kind)) (λ d. is_local (Some d.kind)) host.instance.automaton.entries m.entries entry_like no_more

  -- in each place
  hosts_propose : ProposeLike (HoldsTyped h.hosts p.members) (map host_proposers_of h.hosts) (proposers p)
  hosts_propose w =
      subst (λ o. Both (AllZip (OneLike (HoldsTyped h.hosts p.members w))) o (slice_get (proposers p) w)) (sym (slice_get-map host_proposers_of h.hosts w))
      (subst (λ o. Both (AllZip (OneLike (HoldsTyped h.hosts p.members w))) (option_map host_proposers_of (slice_get h.hosts w)) o) (sym (slice_get-map proposers_of p.members w))
      (go (slice_get h.hosts w) refl (slice_get p.members w) refl))
    where
      go : (o : Option Host) → slice_get h.hosts w ≡ o → (q : Option MemberCode) → slice_get p.members w ≡ q
          → Both (AllZip (OneLike (HoldsTyped h.hosts p.members w))) (option_map host_proposers_of o) (option_map proposers_of q)
      go (Some host) at (Some m) there = component_like w host m at there
      go (Some host) at None there =
          let x = zip-at IsMadeOf h.hosts c.members w host stands.members at in
          let y = zip-at MatchesMember c.members p.members w x.0 means.tables x.1 in
          let e : None ≡ Some y.0 = sym there ∙ y.1 in absurd (cc)
      go None at (Some m) there =
          let x = zip-to MatchesMember c.members p.members w m means.tables there in
          let y = zip-to IsMadeOf h.hosts c.members w x.0 stands.members x.1 in
          let e : None ≡ Some y.0 = sym at ∙ y.1 in absurd (cc)
      go None at None there = tt

-- ---- what those of a composition propose

module _ (p : Prog) (c : Composed) (program : IsProgram p) (means : Implements p c) where
  module _ (w : ℕ) (cm : Member) (m : MemberCode) (at : slice_get c.members w ≡ Some cm) (there : slice_get p.members w ≡ Some m) where
    code_of : IsMember p.types m
    code_of = member_at (IsMember p.types) (AreMembers p.types) (λ x xs a. a) p.members w m program.members there

    matches : MatchesMember cm m
    matches =
        let q = zip-to MatchesMember c.members p.members w m means.tables there in
        subst (λ x. MatchesMember x m) (some_same (slice_get c.members w) q.0 cm q.1 at) q.2

    here_related : (s : Env) (slots : List Val) → CorrespondsAt c.members w s slots → Corresponds cm.instance s slots
    here_related s slots r = subst (λ o. CorrespondsIn o s slots) at r

    entry_matched : (k : ℕ) (e : EntryTree) → slice_get cm.instance.automaton.entries k ≡ Some e
        → (d : EntryCode) × (slice_get m.entries k ≡ Some d) × Pair (CorrespondsAt c.members w) (by_entry cm.instance) (λ d. by_code d d.propose) (λ e. is_local (Some e.kind)) (λ d. is_local (Some d.kind)) e d
    entry_matched k e here =
        let found = zip-at (MatchesEntry cm) cm.instance.automaton.entries m.entries k e matches.entries here in
        let d = found.0 in
        let own : MatchesEntry cm e d = found.2 in
        let is : IsEntry m d = member_at (IsEntry m) (AreEntries m) (λ x xs a. a) m.entries k d code_of.entries found.1 in
        let types : m.start.table ≡ cm.instance.types = matches.types in
        let declared : AreTypes cm.instance.types = subst AreTypes (sym code_of.types_are ∙ types) program.types in
        let are : All (IsDomain cm.instance.types) d.positions = subst (λ t. All (IsDomain t) d.positions) types is.positions in (
          d,
          found.1,
          record {
            kind = ap (λ x. is_local (Some x)) own.kind;
            like = λ local s slots words n r.
                let code = has_code m d d.kind d.propose (ap (λ x. is_local (Some x)) own.kind ∙ local) is.propose in
                let ends : ProposalEnds code.0 slots (after n words) (proposed cm.instance e s (after n words) 0) =
                subst (λ o. IfSome o (λ part. (env : Env) (vs : List Val) (ws : Words) → Corresponds cm.instance env vs → ProposalEnds part vs ws (proposed cm.instance e env ws 0))) code.1 own.propose
                s slots (after n words) (here_related s slots r) in
                by_alike cm.instance e d code.0 s slots words n own.name (λ vs. filled_alike cm.instance cm.instance e d.positions vs declared are own.positions (λ a. refl)) ends
                ∙ sym (ap (λ o. by_code d o slots words n) code.1);
          },
        )

    none_matched : (k : ℕ) (d : EntryCode) → slice_get cm.instance.automaton.entries k ≡ None → slice_get m.entries k ≡ Some d → is_local (Some d.kind) ≡ false
    none_matched k d n e =
        let found = zip-to (MatchesEntry cm) cm.instance.automaton.entries m.entries k d matches.entries e in
        let q : None ≡ Some found.0 = sym n ∙ found.1 in absurd (cc)

    member_like : AllZip (OneLike (CorrespondsAt c.members w)) (member_proposers_of cm) (proposers_of m)
    member_like =
        pairs (CorrespondsAt c.members w) (by_entry cm.instance) (λ d. by_code d d.propose) (λ e. is_local (Some e.kind)) (λ d. is_local (Some d.kind)) cm.instance.automaton.entries m.entries entry_matched none_matched

  members_propose : ProposeLike (CorrespondsAt c.members) (map member_proposers_of c.members) (proposers p)
  members_propose w =
      subst (λ o. Both (AllZip (OneLike (CorrespondsAt c.members w))) o (slice_get (proposers p) w)) (sym (slice_get-map member_proposers_of c.members w))
      (subst (λ o. Both (AllZip (OneLike (CorrespondsAt c.members w))) (option_map member_proposers_of (slice_get c.members w)) o) (sym (slice_get-map proposers_of p.members w))
      (go (slice_get c.members w) refl (slice_get p.members w) refl))
    where
      go : (o : Option Member) → slice_get c.members w ≡ o → (q : Option MemberCode) → slice_get p.members w ≡ q
          → Both (AllZip (OneLike (CorrespondsAt c.members w))) (option_map member_proposers_of o) (option_map proposers_of q)
      go (Some cm) at (Some m) there = member_like w cm m at there
      go (Some cm) at None there =
          let y = zip-at MatchesMember c.members p.members w cm means.tables at in
          let e : None ≡ Some y.0 = sym there ∙ y.1 in absurd (cc)
      go None at (Some m) there =
          let x = zip-to MatchesMember c.members p.members w m means.tables there in
          let e : None ≡ Some x.0 = sym at ∙ x.1 in absurd (cc)
      go None at None there = tt

-- ---- what those of a table propose

own_likes : {S : Type 0} (es : List (Proposer S)) → AllZip (OneLike (λ x y. x ≡ y)) es es
own_likes [] = tt
own_likes {S} (e ∷ es) = (λ s t words n r. ap (λ (x : S). e x words n) r, own_likes es)

own_propose : {S : Type 0} (es : List (List (Proposer S))) → ProposeLike (λ _ x y. x ≡ y) es es
own_propose es w = go (slice_get es w)
  where
    go : {S : Type 0} (o : Option (List (Proposer S))) → Both (AllZip (OneLike (λ x y. x ≡ y))) o o
    go (Some fs) = own_likes fs
    go None = tt

-- ---- the program and what it runs as

propose : (p : Prog) (s : Subject) → IsProgram p → RunsAs p s → ProposeLike (InSlots p s) (its_proposers s) (proposers p)
propose p (of_hosts h) program runs = hosts_propose p h runs.0 program runs.1 runs.2
propose p (of_composition c) program runs = members_propose p c program runs
propose p (of_table q) program same = subst (λ (x : Prog). ProposeLike (λ _ u v. u ≡ v) (proposers x) (proposers p)) same (own_propose (proposers p))

proposer_for_each : (s : Subject) → length (its_proposers s) ≡ length (its_names s)
proposer_for_each (of_hosts h) = length-map h.hosts host_proposers_of ∙ sym (length-map h.hosts (λ (q : Host). q.name))
proposer_for_each (of_composition c) = length-map c.members member_proposers_of ∙ sym (length-map c.members (λ (q : Member). q.name))
proposer_for_each (of_table p) = length-map p.members proposers_of ∙ sym (length-map p.members (λ (q : MemberCode). q.name))

module _ (p : Prog) (s : Subject) (runs : RunsAs p s) where
  starts : AllRelated (InSlots p s) 0 (its_starts s) (start_states p)
  starts = (does_as p s runs).starts

  steps : (a : Act) (ss : List (State s)) (slots : List (List Val)) → AllRelated (InSlots p s) 0 ss slots → MovesLike (InSlots p s) 0 (step (its_components s) a ss) (step (tabled p) a slots)
  steps a ss slots r = step_as p s runs a ss slots r

  pub names_count : length p.members ≡ length (its_names s)
  names_count = sym (length-map p.members (λ (q : MemberCode). q.name)) ∙ ap length (does_as p s runs).names

  proposers_count : length (its_proposers s) ≡ length (proposers p)
  proposers_count = proposer_for_each s ∙ sym names_count ∙ sym (length-map p.members proposers_of)

  workers : (a : Act) → worker (its_components s) a ≡ worker (tabled p) a
  workers a = sym (worker_as p s runs a)

  -- the same log is resumed at boards that are alike, or refused alike
  pub resumption_alike : (log : Logged) → ResumedLike (InSlots p s) (resumption (its_components s) (its_starts s) log) (resumption (tabled p) (start_states p) log)
  resumption_alike log = resumption_like (InSlots p s) (its_components s) (tabled p) steps workers (its_starts s) (start_states p) log starts

  pub boards_alike : (log : Logged) (d : Standing (State s)) (b : Standing (List Val)) → AreResumed p s log d b → BoardsLike (InSlots p s) d b
  boards_alike log d b r =
      subst (λ (x : Result (Standing (State s)) RunErr). ResumedLike (InSlots p s) x (Ok b)) r.subject
      (subst (ResumedLike (InSlots p s) (resumption (its_components s) (its_starts s) log)) r.program (resumption_alike log))

  turns_alike : IsProgram p → (log : Logged) (d : Standing (State s)) (b : Standing (List Val)) (words : List Words) (inputs : List Act) (turns : ℕ) → AreResumed p s log d b
      → TurnsLike (InSlots p s) (turns_since s d words inputs turns) (turns_since (of_table p) b words inputs turns)
  turns_alike program log d b words inputs turns r =
      alone_like (InSlots p s) (its_components s) (tabled p) steps workers (its_proposers s) (proposers p) inputs proposers_count
      (propose p s program runs) turns d b words (boards_alike log d b r)

  events_alike : IsProgram p → (log : Logged) (d : Standing (State s)) (b : Standing (List Val)) (words : List Words) (inputs : List Act) (turns : ℕ) → AreResumed p s log d b
      → events_since s d words inputs turns ≡ events_since (of_table p) b words inputs turns
  events_alike program log d b words inputs turns r =
      events_like (InSlots p s) (its_components s) (tabled p) steps workers (its_proposers s) (proposers p) inputs proposers_count
      (propose p s program runs) turns d b words (boards_alike log d b r)

  history_back : (b : Standing (List Val)) → IsSound (tabled p) (start_states p) b → (d : Standing (State s)) × IsSound (its_components s) (its_starts s) d × BoardsLike (InSlots p s) d b
  history_back b k = sound_back (InSlots p s) (its_components s) (tabled p) steps workers (its_starts s) (start_states p) b starts k

  history_on : (d : Standing (State s)) → IsSound (its_components s) (its_starts s) d → (b : Standing (List Val)) × IsSound (tabled p) (start_states p) b × BoardsLike (InSlots p s) d b
  history_on d k = sound_on (InSlots p s) (its_components s) (tabled p) steps workers (its_starts s) (start_states p) d starts k

  abbrev standing : List (ℕ × Act) → List (State s) → Option Failure → Standing (State s)
  standing hs ss f = record { history = hs; states = ss; failure = f }

  -- a board of the subject that is like a sound one is sound
  sound_like : (d : Standing (State s)) (b : Standing (List Val)) → BoardsLike (InSlots p s) d b → IsSound (tabled p) (start_states p) b → IsSound (its_components s) (its_starts s) d
  sound_like d b l k =
      let w = history_back b k in
      let states : w.0.states ≡ d.states = all_once (InSlots p s) (in_once p s) 0 w.0.states d.states b.states w.2.states l.states in
      let history : w.0.history ≡ d.history = w.2.history ∙ sym l.history in
      let failure : w.0.failure ≡ d.failure = w.2.failure ∙ sym l.failure in
      let same : w.0 ≡ d =
      ap (λ (hs : List (ℕ × Act)). standing hs w.0.states w.0.failure) history ∙ ap (λ (ss : List (State s)). standing d.history ss w.0.failure) states
      ∙ ap (standing d.history d.states) failure in
      subst (IsSound (its_components s) (its_starts s)) same w.1

-- the run over the logged actions of a sound board
sound_run : {S : Type 0} (ps : List (Component S)) (ss : List S) (b : Standing S) → IsSound ps ss b
    → run ps (acts_of (with_faulted b.history b.failure)) ss ≡ record { performed = length b.history; states = b.states; ending = ending b.history b.failure }
sound_run ps ss b s = go b.failure refl
  where
    go : (o : Option Failure) → b.failure ≡ o → run ps (acts_of (with_faulted b.history o)) ss ≡ record { performed = length b.history; states = b.states; ending = ending b.history o }
    go None e = legal_run ps b.history ss b.states s.legal
    go (Some r) e =
        let f = subst (λ x. IsFailureFrom ps b.states x) e s.failure in
        ap (λ as'. run ps as' ss) (map-append (λ (x : ℕ × Act). x.1) b.history (r.entry ∷ []))
        ∙ faulted_last 0 (length b.history) ps (acts_of b.history) ss b.states r.entry.1 r.component r.fault f.1 (legal_run ps b.history ss b.states s.legal)

-- a log of a board is one of the subject's board that is like it
log_as : (p : Prog) (s : Subject) (b : Standing (List Val)) (d : Standing (State s)) (log : List LogEntry) (end : LogEnd) (ns : List Node)
    → RunsAs p s → BoardsLike (InSlots p s) d b → IsLogOf p b log end ns → IsLogAs p s d log end ns
log_as p s b d log end ns runs l g =
    let sound : IsSound (its_components s) (its_starts s) d = sound_like p s runs d b l g.sound in
    record {
      entries = g.entries ∙ ap (λ hs. with_faulted hs b.failure) (sym l.history) ∙ ap (with_faulted d.history) (sym l.failure);
      ends = g.ends ∙ ap (λ hs. ending hs b.failure) (sym l.history) ∙ ap (ending d.history) (sym l.failure);
      states = subst (AllRelated (InSlots p s) 0 d.states) (sym g.states) l.states;
      sound = sound;
      runs = sound_run (its_components s) (its_starts s) d sound;
    }

pub same_resumption : SameResumption
same_resumption p s log runs = resumption_alike p s runs log

pub same_turns : SameTurns
same_turns p s log d b words inputs turns program runs r = turns_alike p s runs program log d b words inputs turns r

pub same_alone : SameAlone
same_alone p s log d b words inputs turns o program runs r a =
    let l = turns_alike p s runs program log d b words inputs turns r in
    record {
      log = log_as p s (turns_since (of_table p) b words inputs turns).board (turns_since s d words inputs turns).board o.log.items o.end o.states.items runs l.board a.log;
      reports = a.reports ∙ sym l.reports;
    }

pub same_events : SameEvents
same_events p s log d b words inputs turns program runs r = events_alike p s runs program log d b words inputs turns r

pub same_copy : SameCopy
same_copy p s w a t u r runs l like made =
    copy_like (InSlots p s) (its_components s) (tabled p) (steps p s runs) (workers p s runs) w a t u (answer_of r) (intent_of r) like
    (planned_now (record { program = p; board = u.board }) w a r l made).plans

pub subject_history : SubjectHistory
subject_history p s b runs k = history_back p s runs b k

pub program_history : ProgramHistory
program_history p s d runs k = history_on p s runs d k

pub same_outcome : SameOutcome
same_outcome p s before inputs turns o runs (b, log, goes, told) =
    let w = history_back p s runs b log.sound in (
      w.0,
      log_as p s b w.0 o.log.items o.end o.states.items runs w.2 log,
      subst (GoesOn before) (sym w.2.history) goes,
      subst (λ n. AreTold n inputs turns (since before w.0.history) w.0.failure o.reports.items) (names_count p s runs)
          (subst (λ f. AreTold (length p.members) inputs turns (since before w.0.history) f o.reports.items) (sym w.2.failure)
          (subst (λ hs. AreTold (length p.members) inputs turns (since before hs) b.failure o.reports.items) (sym w.2.history) told)),
    )

pub subject_schedule : SubjectSchedule
subject_schedule p s log d b es xs u apart runs r plays =
    schedules_back (InSlots p s) (its_components s) (tabled p) (steps p s runs) (workers p s runs) (λ a. sym (participants_as p s runs a)) (same_once p s) (same_apart p s apart)
    es d b xs u (boards_alike p s runs log d b r) (resumed_long (of_table p) log b r.program) plays

pub program_schedule : ProgramSchedule
program_schedule p s log d b es xs t apart runs r plays =
    schedules_on (InSlots p s) (its_components s) (tabled p) (steps p s runs) (workers p s runs) (λ a. sym (participants_as p s runs a)) (same_once p s) (same_apart p s apart)
    es d b xs t (boards_alike p s runs log d b r) (resumed_long s log d r.subject) plays
