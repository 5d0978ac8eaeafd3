-- What the entries of a source take in the hosts' states is what they take in the slots of a program that does what the hosts do, and may be followed there.
use Rattle.std.proofs.Common.{◌≡◌, ◌+◌, ◌++◌, ◌∷◌, ◌&&◌, ℕ, zero, suc, All, Bool, true, List, [], Option, Some, None, ap, ap₂, arith, cond, length, map, refl, subst, sym, take, ◌∙◌}
use Rattle.std.specs.Prelude.{slice_get}
use Rattle.std.specs.List.{AllZip}
use Rattle.std.specs.Option.{option_map_or}
use Rattle.std.specs.Str.{bytes_eq}
use Rattle.std.proofs.lemmas.List.{map-append}
use Rattle.std.proofs.lemmas.List.Elements.{All-append, All-cons, All-head, All-nil, All-tail}
use Rattle.std.proofs.lemmas.Option.{slice_get_past}
use Rattle.std.proofs.lemmas.Slice.Eq.{bytes_eq-Decides}
use mathlib.Core.Path.{fun_ext}
use Rattle.ioa_value.specs.Actions.{Act, Name}
use Rattle.ioa_value.specs.Plain.{Val}
use Rattle.ioa_value.specs.Table.{Table}
use Rattle.ioa_value.specs.Typing.{HaveTypes}
use Rattle.ioa_value.proofs.ItemLemmas.{find_at}
use Rattle.ioa_tree.specs.Components.{Component}
use Rattle.ioa_tree.specs.Compositions.{Member, automata, automaton_named}
use Rattle.ioa_tree.specs.Hosts.{AreHosts, Host, HostState, Hosted, IsHost, crash_fine, host_starts, hosts_of}
use Rattle.ioa_tree.specs.Instances.{Fit, Instance, entry_has, environment, state_of}
use Rattle.ioa_tree.specs.Likes.{AllRelated, MovesLike}
use Rattle.ioa_tree.specs.Meaning.{Env}
use Rattle.ioa_tree.specs.Names.{LegalNames}
use Rattle.ioa_tree.specs.Steps.{Moved, fault, next, not_an_action, not_enabled, step}
use Rattle.ioa_tree.specs.Tree.{AutomatonTree, CrashTree, EntryTree, FieldTree, InstanceTree, SourceTree, VariableTree}
use Rattle.ioa_tree.specs.Types.{types_of}
use Rattle.ioa_tree.specs.WellFormed.{variable_fields, well_formed}
use Rattle.ioa_crash.specs.Rewriting.{added_variables, signal_entry, signals, with_signals}
use Rattle.ioa_crash.proofs.RewrittenEntries.{Apart, apart_of}
use Rattle.ioa_compose.specs.Simulates.{IsMadeOf, SlotsHold, TellsUp}
use Rattle.ioa_compile.specs.Matching.{MatchesEntry, MatchesMember}
use Rattle.ioa_compile.specs.Programs.{EntryCode, MemberCode, Prog}
use Rattle.ioa_compile.specs.Subjects.{HoldsIn, InSlots, Runs, of_hosts}
use Rattle.ioa_compile.specs.Tables.{is_in, start_states, tabled}
use Rattle.ioa_compile.proofs.Fits.{have_fit}
use Rattle.ioa_compile.proofs.Subjects.{does_as, step_as}
use Rattle.ioa_coverage.specs.Effects.{EntryEffect, MayTake, declared_automaton, declared_instance, effects_from, entry_effect, entry_effects, is_up, is_up_by, taken_at, taken_by_run, taken_in_slots}
use Rattle.ioa_coverage.specs.Following.{MayFollowAll}
use Rattle.ioa_coverage.specs.Taken.{effect_for, marks_in, taken_by, taken_in, taken_in_run, taken_over, then_run}
use Rattle.ioa_coverage.proofs.Hosting.{host_alike, in_table}
use Rattle.ioa_coverage.proofs.Suiting.{host_types, own_follows, signal_follows}

-- ---- which effects they are

-- those of hosts, by the entries of a program's components
abbrev pub host_effects : ℕ → Host → MemberCode → List EntryEffect
host_effects n p m = entry_effects n m p.instance (with_signals p.crash p.instance.automaton).entries m.entries

abbrev pub all_effects : ℕ → List Host → List MemberCode → List EntryEffect
all_effects n [] ms = []
all_effects n (p ∷ ps) [] = []
all_effects n (p ∷ ps) (m ∷ ms) = host_effects n p m ++ all_effects (n + 1) ps ms

fit_long : (types : Table) (fs : List FieldTree) (vs : List Val) → Fit types fs vs → length fs ≡ length vs
fit_long types [] [] h = refl
fit_long types [] (v ∷ vs) h = absurd h
fit_long types (f ∷ fs) [] h = absurd h
fit_long types (f ∷ fs) (v ∷ vs) h = ap suc (fit_long types fs vs h.3)

take_first : {X : Type 0} (xs ys : List X) → take (length xs) (xs ++ ys) ≡ xs
take_first [] ys = refl
take_first (x ∷ xs) ys = ap (λ zs. x ∷ zs) (take_first xs ys)

-- an automaton has the name that it is found by
found_by : (s : SourceTree) (x : Name) (a : AutomatonTree) → automaton_named s x ≡ Some a → a.name ≡ x
found_by s x a e = (bytes_eq-Decides a.name x).0 (find_at (λ b. bytes_eq b.name x) (automata s) a e).2

abbrev instance : Table → AutomatonTree → List Val → Instance
instance t a vs = record { types = t; automaton = a; arguments = vs }

declared_same : (s : SourceTree) (types : Table) (i : InstanceTree) (p : Host) (m : Member) → IsHost s i p → types ≡ types_of s → IsMadeOf p m
    → p.instance.automaton.name ≡ m.instance.automaton.name → declared_instance s types m ≡ p.instance
declared_same s types i p m h same made names =
    let named : automaton_named s m.instance.automaton.name ≡ Some p.instance.automaton =
    ap (automaton_named s) (sym names ∙ found_by s i.automaton p.instance.automaton h.automaton) ∙ h.automaton in
    let own : declared_automaton s m.instance.automaton ≡ p.instance.automaton = ap (λ o. option_map_or (λ (a : AutomatonTree). a) o m.instance.automaton) named in
    let long : length (declared_automaton s m.instance.automaton).formals ≡ length p.instance.arguments =
    ap (λ (a : AutomatonTree). length a.formals) own ∙ fit_long (types_of s) p.instance.automaton.formals p.instance.arguments h.fit in
    let given : take (length (declared_automaton s m.instance.automaton).formals) m.instance.arguments ≡ p.instance.arguments =
    ap₂ (λ (n : ℕ) (vs : List Val). take n vs) long made.arguments ∙ take_first p.instance.arguments _ in
    let its_types : types ≡ p.instance.types = same ∙ sym h.types in
    ap (λ (t : Table). instance t (declared_automaton s m.instance.automaton) (take (length (declared_automaton s m.instance.automaton).formals) m.instance.arguments)) its_types
    ∙ ap (λ (a : AutomatonTree). instance p.instance.types a (take (length (declared_automaton s m.instance.automaton).formals) m.instance.arguments)) own
    ∙ ap (instance p.instance.types p.instance.automaton) given

pub effects_are : (s : SourceTree) (types : Table) (n : ℕ) (is : List InstanceTree) (hs : List Host) (ms : List Member) (cs : List MemberCode) → types ≡ types_of s → AreHosts s is hs
    → AllZip IsMadeOf hs ms → map (λ (p : Host). p.instance.automaton.name) hs ≡ map (λ (m : Member). m.instance.automaton.name) ms → effects_from s types n ms cs ≡ all_effects n hs cs
effects_are s types n is [] [] cs same hosts made names = refl
effects_are s types n is [] (m ∷ ms) cs same hosts made names = absurd made
effects_are s types n is (p ∷ ps) [] cs same hosts made names = absurd made
effects_are s types n [] (p ∷ ps) (m ∷ ms) cs same hosts made names = absurd hosts
effects_are s types n (i ∷ is) (p ∷ ps) (m ∷ ms) [] same hosts made names = refl
effects_are s types n (i ∷ is) (p ∷ ps) (m ∷ ms) (c ∷ cs) same hosts made names =
    let name : p.instance.automaton.name ≡ m.instance.automaton.name = cc in
    let rest : map (λ (q : Host). q.instance.automaton.name) ps ≡ map (λ (q : Member). q.instance.automaton.name) ms = cc in
    ap₂ (λ (x y : List EntryEffect). x ++ y)
    (ap₂ (λ (j : Instance) (es : List EntryTree). entry_effects n c j es c.entries) (declared_same s types i p m hosts.0 same made.0 name) made.0.entries)
    (effects_are s types (n + 1) is ps ms cs same hosts.1 made.1 rest)

-- ---- what they take

up_same : (crash : Option CrashTree) (n : ℕ) (up : Bool) (slots : List Val) → TellsUp crash n up slots → is_up_by (slice_get slots n) ≡ up
up_same None n up slots k = ap (λ m. is_up_by (slice_get slots m)) (sym k.0) ∙ ap is_up_by (slice_get_past slots (length slots) (omega arith)) ∙ sym k.1
up_same (Some c) n up slots k = ap is_up_by k.1

-- an entry of the host and of the program's component have the same actions
abbrev pub HaveSame : Host → MemberCode → EntryTree → EntryCode → Type 0
HaveSame p m e c = (a : Act) → is_in m.start.table a c ≡ entry_has p.instance a e

taken_same : (n : ℕ) (p : Host) (m : MemberCode) (e : EntryTree) (c : EntryCode) → HaveSame p m e c → (a : Act) (h : HostState Env) (slots : List Val) → SlotsHold p h slots
    → taken_by p e a h ≡ taken_in_slots (entry_effect n m p.instance e c) a slots
taken_same n p m e c same a h slots k =
    let own = p.instance.automaton in
    let inner : h.inner ≡ state_of own slots = fun_ext (λ x. k.values x) in
    let up : is_up p.instance slots ≡ h.up = up_same p.crash (length own.variables) h.up slots k.up in
    ap (λ (s : Env). cond (entry_has p.instance a e && h.up) (marks_in p.instance.types 0 (effect_for p e) (environment p.instance e a.vals s)) []) inner
    ∙ ap₂ (λ (b u : Bool). cond (b && u) (marks_in p.instance.types 0 (effect_for p e) (environment p.instance e a.vals (state_of own slots))) []) (sym (same a)) (sym up)

-- two items that are there and related, or none
abbrev Both : {S T : Type 0} → (S → T → Type 0) → Option S → Option T → Type 0
Both R None None = Unit {0}
Both R None (Some y) = ⊥
Both R (Some x) None = ⊥
Both R (Some x) (Some y) = R x y

related_from : {S T : Type 0} (R : ℕ → S → T → Type 0) (i w : ℕ) (xs : List S) (ys : List T) → AllRelated R i xs ys → Both (R (w + i)) (slice_get xs w) (slice_get ys w)
related_from R i w [] [] r = tt
related_from R i w [] (y ∷ ys) r = absurd r
related_from R i w (x ∷ xs) [] r = absurd r
related_from R i zero (x ∷ xs) (y ∷ ys) r = let e : i ≡ zero + i = omega arith in subst (λ k. R k x y) e r.0
related_from R i (suc w) (x ∷ xs) (y ∷ ys) r =
    let e : w + (i + 1) ≡ suc w + i = omega arith in
    subst (λ k. Both (R k) (slice_get xs w) (slice_get ys w)) e (related_from R (i + 1) w xs ys r.1)

related_at : {S T : Type 0} (R : ℕ → S → T → Type 0) (w : ℕ) (xs : List S) (ys : List T) → AllRelated R 0 xs ys → Both (R w) (slice_get xs w) (slice_get ys w)
related_at R w xs ys r = let e : w + 0 ≡ w = omega arith in subst (λ k. Both (R k) (slice_get xs w) (slice_get ys w)) e (related_from R 0 w xs ys r)

-- components that step alike, and take the same in related states, take the same over a run
module _ {S T : Type 0} (R : ℕ → S → T → Type 0) (ps : List (Component S)) (qs : List (Component T))
    (steps : (a : Act) (ss : List S) (ts : List T) → AllRelated R 0 ss ts → MovesLike R 0 (step ps a ss) (step qs a ts))
    (inner : Act → List S → List ℕ) (other : Act → List T → List ℕ) (alike : (a : Act) (ss : List S) (ts : List T) → AllRelated R 0 ss ts → inner a ss ≡ other a ts) where
  over_alike : (acts : List Act) (ss : List S) (ts : List T) → AllRelated R 0 ss ts → taken_over ps inner acts ss ≡ taken_over qs other acts ts
  over_alike [] ss ts r = refl
  over_alike (a ∷ acts) ss ts r = go (step ps a ss) (step qs a ts) (steps a ss ts r) (over_alike acts)
    where
      these : List S → List ℕ
      these us = inner a ss ++ taken_over ps inner acts us

      those : List T → List ℕ
      those us = other a ts ++ taken_over qs other acts us

      go : (m : Moved S) (n : Moved T) → MovesLike R 0 m n → ((us : List S) (vs : List T) → AllRelated R 0 us vs → taken_over ps inner acts us ≡ taken_over qs other acts vs)
          → then_run m these ≡ then_run n those
      go (next us) n k more = ap₂ (λ (x y : List ℕ). x ++ y) (alike a ss ts r) (more us k.0 k.2) ∙ ap (λ (w : Moved T). then_run w those) (sym k.1)
      go not_an_action n k more = ap (λ (w : Moved T). then_run w those) (sym k)
      go not_enabled n k more = ap (λ (w : Moved T). then_run w those) (sym k)
      go (fault i f) n k more = ap (λ (w : Moved T). then_run w those) (sym k)

module _ (q : Prog) (h : Hosted) (runs : Runs q h) (n : ℕ) (p : Host) (m : MemberCode) (at : slice_get h.hosts n ≡ Some p) (there : slice_get q.members n ≡ Some m) where
  taken_both : (e : EntryTree) (c : EntryCode) → HaveSame p m e c → (a : Act) (hs : List (HostState Env)) (slots : List (List Val)) → AllRelated (InSlots q (of_hosts h)) 0 hs slots
      → taken_in n p e a hs ≡ taken_at (entry_effect n m p.instance e c) a slots
  taken_both e c same a hs slots r = go (slice_get hs n) (slice_get slots n) (related_at (InSlots q (of_hosts h)) n hs slots r)
    where
      go : (x : Option (HostState Env)) (y : Option (List Val)) → Both (InSlots q (of_hosts h) n) x y
          → option_map_or (taken_by p e a) x [] ≡ option_map_or (taken_in_slots (entry_effect n m p.instance e c) a) y []
      go None None k = refl
      go None (Some y) k = absurd k
      go (Some x) None k = absurd k
      go (Some x) (Some y) k =
          let held : HoldsIn (Some p) (Some m) x y = subst (λ (o : Option MemberCode). HoldsIn (Some p) o x y) there (subst (λ (o : Option Host). HoldsIn o (slice_get q.members n) x y) at k) in
          taken_same n p m e c same a x y held.0

  -- so over a run
  pub run_same : (e : EntryTree) (c : EntryCode) → HaveSame p m e c → (acts : List Act) → taken_by_run q (entry_effect n m p.instance e c) acts ≡ taken_in_run h n p e acts
  run_same e c same acts =
      sym (over_alike (InSlots q (of_hosts h)) (hosts_of h) (tabled q) (step_as q (of_hosts h) runs) (taken_in n p e) (taken_at (entry_effect n m p.instance e c)) (taken_both e c same)
      acts (host_starts h) (start_states q) (does_as q (of_hosts h) runs).starts)

-- ---- that they may be followed

-- an item is among the first or among the others
in_two : {X : Type 0} (P : X → Type 0) (xs ys : List X) (k : ℕ) (x : X) → slice_get (xs ++ ys) k ≡ Some x → ((j : ℕ) → slice_get xs j ≡ Some x → P x)
    → ((j : ℕ) → slice_get ys j ≡ Some x → P x) → P x
in_two P [] ys k x at first other = other k at
in_two P (z ∷ xs) ys zero x at first other = first zero at
in_two P (z ∷ xs) ys (suc k) x at first other = in_two P xs ys k x at (λ j. first (suc j)) other

abbrev Follows : Host → EntryTree → Type 0
Follows p e = (a : Act) (slots : List Val) (more : List FieldTree) → Fit p.instance.types (variable_fields p.instance.automaton ++ more) slots → entry_has p.instance a e ≡ true
    → MayFollowAll p.instance.types (environment p.instance e a.vals (state_of p.instance.automaton slots)) (effect_for p e)

-- the component's entry has the same actions as the host's
pub same_actions : (p : Host) (m : Member) (c : MemberCode) → IsMadeOf p m → MatchesMember m c → (k : ℕ) (e : EntryTree) (d : EntryCode)
    → slice_get (with_signals p.crash p.instance.automaton).entries k ≡ Some e → MatchesEntry m e d → HaveSame p c e d
same_actions p m c made matches k e d at entry = λ a. in_table m c.start.table e d a matches.types entry ∙ host_alike p m a e p.crash k made at

module _ (s : SourceTree) (fine : well_formed s ≡ true) (legal : LegalNames s) (i : InstanceTree) (p : Host) (h : IsHost s i p) where
  follows : (crash : Option CrashTree) → p.crash ≡ crash → (k : ℕ) (e : EntryTree) → slice_get (with_signals crash p.instance.automaton).entries k ≡ Some e → Follows p e
  follows None is k e at = own_follows s fine legal i p h k e at
  follows (Some n) is k e at = in_two (Follows p) p.instance.automaton.entries (signals n) k e at (λ j. own_follows s fine legal i p h j e) signalled
    where
      apart : Apart n p.instance.automaton.entries
      apart = apart_of n p.instance.automaton (subst (λ (o : Option CrashTree). crash_fine o p.instance.automaton ≡ true) (sym h.crash ∙ is) h.fine)

      signalled : (j : ℕ) → slice_get (signals n) j ≡ Some e → Follows p e
      signalled zero q = let same : signal_entry n.crash ≡ e = cc in subst (Follows p) same (signal_follows s fine legal i p h n.crash apart.crash)
      signalled (suc zero) q = let same : signal_entry n.recover ≡ e = cc in subst (Follows p) same (signal_follows s fine legal i p h n.recover apart.recover)
      signalled (suc (suc j)) q = absurd (cc)

  module _ (q : Prog) (n : ℕ) (m : Member) (c : MemberCode) (there : slice_get q.members n ≡ Some c) (made : IsMadeOf p m) (matches : MatchesMember m c) (types : c.start.table ≡ p.instance.types) where
    fits : (slots : List Val) → HaveTypes c.start.table slots c.start.types
        → Fit p.instance.types (variable_fields p.instance.automaton ++ map (λ (v : VariableTree). v.field) (added_variables p.crash)) slots
    fits slots typed =
        let fields : variable_fields m.instance.automaton ≡ variable_fields p.instance.automaton ++ map (λ (v : VariableTree). v.field) (added_variables p.crash) =
        ap (map (λ (v : VariableTree). v.field)) made.variables ∙ map-append (λ (v : VariableTree). v.field) p.instance.automaton.variables (added_variables p.crash) in
        subst (λ (fs : List FieldTree). Fit p.instance.types fs slots) fields
        (subst (λ (t : Table). Fit t (variable_fields m.instance.automaton) slots) (sym matches.types ∙ types)
        (have_fit m.instance.types (variable_fields m.instance.automaton) slots c.start.types (subst (λ (t : Table). HaveTypes t slots c.start.types) matches.types typed) matches.variables))

    may_take : (k : ℕ) (e : EntryTree) (d : EntryCode) → slice_get (with_signals p.crash p.instance.automaton).entries k ≡ Some e → MatchesEntry m e d
        → MayTake q (entry_effect n c p.instance e d)
    may_take k e d at entry = record {
      member = there;
      types = host_types s fine legal i p h;
      follow = λ a slots typed has.
          follows p.crash refl k e at a slots (map (λ (v : VariableTree). v.field) (added_variables p.crash)) (fits slots typed) (sym (same_actions p m c made matches k e d at entry a) ∙ has);
    }

    entries_may : (es : List EntryTree) (ds : List EntryCode) → AllZip (MatchesEntry m) es ds
        → ((k : ℕ) (e : EntryTree) (d : EntryCode) → slice_get es k ≡ Some e → MatchesEntry m e d → MayTake q (entry_effect n c p.instance e d))
        → All (MayTake q) (entry_effects n c p.instance es ds)
    entries_may [] ds zip each = All-nil (MayTake q)
    entries_may (e ∷ es) [] zip each = absurd zip
    entries_may (e ∷ es) (d ∷ ds) zip each =
        All-cons (MayTake q) (entry_effect n c p.instance e d) (entry_effects n c p.instance es ds) (each zero e d refl zip.0) (entries_may es ds zip.1 (λ k. each (suc k)))

    pub host_may : All (MayTake q) (host_effects n p c)
    host_may =
        entries_may (with_signals p.crash p.instance.automaton).entries c.entries
        (subst (λ (es : List EntryTree). AllZip (MatchesEntry m) es c.entries) made.entries matches.entries) may_take

pub all_may : (s : SourceTree) (fine : well_formed s ≡ true) (legal : LegalNames s) (q : Prog) (n : ℕ) (is : List InstanceTree) (hs : List Host) (ms : List Member) (cs : List MemberCode)
    → ((j : ℕ) → slice_get cs j ≡ slice_get q.members (j + n)) → AreHosts s is hs → AllZip IsMadeOf hs ms → AllZip MatchesMember ms cs → All (λ (c : MemberCode). c.start.table ≡ types_of s) cs
    → All (MayTake q) (all_effects n hs cs)
all_may s fine legal q n is [] ms cs from hosts made matches types = All-nil (MayTake q)
all_may s fine legal q n is (p ∷ ps) ms [] from hosts made matches types = All-nil (MayTake q)
all_may s fine legal q n [] (p ∷ ps) ms (c ∷ cs) from hosts made matches types = absurd hosts
all_may s fine legal q n (i ∷ is) (p ∷ ps) [] (c ∷ cs) from hosts made matches types = absurd made
all_may s fine legal q n (i ∷ is) (p ∷ ps) (m ∷ ms) (c ∷ cs) from hosts made matches types =
    let at : slice_get q.members n ≡ Some c = let e : zero + n ≡ n = omega arith in ap (slice_get q.members) (sym e) ∙ sym (from zero) in
    let later : (j : ℕ) → slice_get cs j ≡ slice_get q.members (j + (n + 1)) = λ j. let e : suc j + n ≡ j + (n + 1) = omega arith in from (suc j) ∙ ap (slice_get q.members) e in
    All-append (MayTake q) (host_effects n p c) (all_effects (n + 1) ps cs)
    (host_may s fine legal i p hosts.0 q n m c at made.0 matches.0 (All-head (λ (d : MemberCode). d.start.table ≡ types_of s) c cs types ∙ sym hosts.0.types))
    (all_may s fine legal q (n + 1) is ps ms cs later hosts.1 made.1 matches.1 (All-tail (λ (d : MemberCode). d.start.table ≡ types_of s) c cs types))
