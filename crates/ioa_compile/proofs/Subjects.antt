-- A program does what it runs as: its components are like the subject's, and start like them.
use Rattle.std.proofs.Common.{◌≡◌, ℕ, zero, suc, ◌+◌, List, [], ◌∷◌, map, length, Option, Some, None, slice_get, IsTrue, Result, Ok, Err, refl, sym, ap, ap₂, subst, ◌∙◌, arith}
use Rattle.std.specs.List.{AllZip}
use Rattle.std.proofs.lemmas.List.{length-map}
use Rattle.ioa_arithmetic.specs.declared.arithmetic.Fault.{Fault}
use Rattle.ioa_value.specs.Actions.{Name, Act}
use Rattle.ioa_value.specs.Plain.{Val}
use Rattle.ioa_value.specs.Typing.{HaveTypes}
use Rattle.ioa_tree.specs.declared.tree.Kind.{Kind}
use Rattle.ioa_tree.specs.Components.{Component, is_kind, is_local}
use Rattle.ioa_tree.specs.Compositions.{Composed, Member, components_of, starts_of}
use Rattle.ioa_tree.specs.Hosts.{Host, HostState, Hosted, host_start, hosts_of, host_starts}
use Rattle.ioa_tree.specs.Instances.{Fit, Instance, state_of, variable_names}
use Rattle.ioa_tree.specs.Likes.{AllLike, AllRelated, AreLike, IsLike, MovesLike, RunsLike}
use Rattle.ioa_tree.specs.Meaning.{Env}
use Rattle.ioa_tree.specs.Runs.{is_external, run, trace}
use Rattle.ioa_tree.specs.Steps.{owner, participants, step}
use Rattle.ioa_tree.specs.WellFormed.{variable_fields}
use Rattle.ioa_tree.proofs.Simulation.{external_like, owner_like, participants_like, run_like, step_like, trace_like}
use Rattle.ioa_compose.specs.Simulates.{IsMadeOf, Simulates, SlotsHold, SlotsHoldAt, StandsAt, StandsFor}
use Rattle.ioa_crash.proofs.RewrittenNames.{fit_length}
use Rattle.ioa_compile.specs.Correspondence.{CorrespondsAt, CorrespondsIn}
use Rattle.ioa_compile.specs.Implements.{Implements}
use Rattle.ioa_compile.specs.Matching.{MatchesMember}
use Rattle.ioa_compile.specs.Programs.{MemberCode, Prog}
use Rattle.ioa_compile.specs.Subjects.{HoldsIn, HoldsTyped, InSlots, RunsAs, State, Subject, its_components, its_hidden, its_names, its_starts, its_types, of_composition, of_hosts, of_table}
use Rattle.ioa_compile.specs.Tables.{start_states, tabled}
use Rattle.ioa_compile.proofs.Fits.{fit_have, have_fit}

-- ---- what is alike by two relations in a row

are_through : {S T U : Type 0} (R : S → T → Type 0) (Q : T → U → Type 0) (H : S → U → Type 0) → ((x : S) (y : T) (z : U) → R x y → Q y z → H x z)
    → (a : Result S Fault) (b : Result T Fault) (c : Result U Fault) → AreLike R a b → AreLike Q b c → AreLike H a c
are_through R Q H through (Ok x) (Ok y) (Ok z) r q = through x y z r q
are_through R Q H through (Ok x) (Ok y) (Err g) r q = absurd q
are_through R Q H through (Ok x) (Err f) c r q = absurd r
are_through R Q H through (Err f) (Ok y) c r q = absurd r
are_through R Q H through (Err f) (Err g) (Ok z) r q = absurd q
are_through R Q H through (Err f) (Err g) (Err k) r q = r ∙ q

-- where one relation is two in a row, components that are alike by these are alike by it
one_through : {S T U : Type 0} (R : S → T → Type 0) (Q : T → U → Type 0) (H : S → U → Type 0) → ((x : S) (z : U) → H x z → (y : T) × R x y × Q y z)
    → ((x : S) (y : T) (z : U) → R x y → Q y z → H x z) → (p : Component S) (q : Component T) (r : Component U) → IsLike R p q → IsLike Q q r → IsLike H p r
one_through R Q H between through p q r l k = record {
  kinds = λ a. l.kinds a ∙ k.kinds a;
  guards = λ a x z o h.
      let w = between x z h in
      l.guards a x w.0 o w.1 ∙ k.guards a w.0 z (subst (λ (n : Option Kind). IsTrue (is_local n)) (l.kinds a) o) w.2;
  effects = λ a x z o h.
      let w = between x z h in
      are_through R Q H through (p.effect a x) (q.effect a w.0) (r.effect a z) (l.effects a x w.0 o w.1)
      (k.effects a w.0 z (subst (λ (n : Option Kind). IsTrue (is_kind n)) (l.kinds a) o) w.2);
}

module _ {S T U : Type 0} (R : ℕ → S → T → Type 0) (Q : ℕ → T → U → Type 0) (H : ℕ → S → U → Type 0)
    (between : (i : ℕ) (x : S) (z : U) → H i x z → (y : T) × R i x y × Q i y z) (through : (i : ℕ) (x : S) (y : T) (z : U) → R i x y → Q i y z → H i x z) where
  pub likes_through : (i : ℕ) (ps : List (Component S)) (qs : List (Component T)) (rs : List (Component U)) → AllLike R i ps qs → AllLike Q i qs rs → AllLike H i ps rs
  likes_through i [] [] [] l k = tt
  likes_through i [] [] (r ∷ rs) l k = absurd k
  likes_through i [] (q ∷ qs) rs l k = absurd l
  likes_through i (p ∷ ps) [] rs l k = absurd l
  likes_through i (p ∷ ps) (q ∷ qs) [] l k = absurd k
  likes_through i (p ∷ ps) (q ∷ qs) (r ∷ rs) l k =
      (one_through (R i) (Q i) (H i) (between i) (through i) p q r l.0 k.0, likes_through (i + 1) ps qs rs l.1 k.1)

  pub all_through : (i : ℕ) (xs : List S) (ys : List T) (zs : List U) → AllRelated R i xs ys → AllRelated Q i ys zs → AllRelated H i xs zs
  all_through i [] [] [] r q = tt
  all_through i [] [] (z ∷ zs) r q = absurd q
  all_through i [] (y ∷ ys) zs r q = absurd r
  all_through i (x ∷ xs) [] zs r q = absurd r
  all_through i (x ∷ xs) (y ∷ ys) [] r q = absurd q
  all_through i (x ∷ xs) (y ∷ ys) (z ∷ zs) r q = (through i x y z r.0 q.0, all_through (i + 1) xs ys zs r.1 q.1)

-- ---- what is like itself

own_answer : {S : Type 0} (r : Result S Fault) → AreLike (λ x y. x ≡ y) r r
own_answer (Ok x) = refl
own_answer (Err f) = refl

own_like : {S : Type 0} (i : ℕ) (ps : List (Component S)) → AllLike (λ _ x y. x ≡ y) i ps ps
own_like i [] = tt
own_like {S} i (p ∷ ps) = (
  record {
    kinds = λ a. refl;
    guards = λ a x y o e. ap (p.guard a) e;
    effects = λ a x y o e. subst (λ (z : S). AreLike (λ u v. u ≡ v) (p.effect a x) (p.effect a z)) e (own_answer (p.effect a x));
  },
  own_like (i + 1) ps,
)

own_states : {S : Type 0} (i : ℕ) (xs : List S) → AllRelated (λ _ x y. x ≡ y) i xs xs
own_states i [] = tt
own_states i (x ∷ xs) = (refl, own_states (i + 1) xs)

-- ---- the hosts' states in a program's slots

some_same : {X : Type 0} (o : Option X) (x y : X) → o ≡ Some x → o ≡ Some y → x ≡ y
some_same o x y e f = let g : Some x ≡ Some y = sym e ∙ f in cc

-- there are as many slots as variables
pub as_many : (i : Instance) (vs : List Val) → Fit i.types (variable_fields i.automaton) vs → length vs ≡ length (variable_names i.automaton)
as_many i vs h =
    let l = fit_length i.types (variable_fields i.automaton) vs h in
    omega (arith, l, length-map (variable_fields i.automaton) (λ f. f.name), length-map i.automaton.variables (λ v. v.field), length-map i.automaton.variables (λ v. v.field.name))

-- the items of a list that is zipped with another
zipped : {A B : Type 0} (Z : A → B → Type 0) (xs : List A) (ys : List B) (i : ℕ) (y : B) → AllZip Z xs ys → slice_get ys i ≡ Some y → (x : A) × (slice_get xs i ≡ Some x) × Z x y
zipped Z [] [] i y h k = absurd (cc)
zipped Z [] (z ∷ ys) i y h k = absurd h
zipped Z (x ∷ xs) [] i y h k = absurd h
zipped Z (x ∷ xs) (z ∷ ys) zero y h k = let same : z ≡ y = cc in (x, refl, subst (Z x) same h.0)
zipped Z (x ∷ xs) (z ∷ ys) (suc i) y h k = zipped Z xs ys i y h.1 k

zipped_back : {A B : Type 0} (Z : A → B → Type 0) (xs : List A) (ys : List B) (i : ℕ) (x : A) → AllZip Z xs ys → slice_get xs i ≡ Some x → (y : B) × (slice_get ys i ≡ Some y) × Z x y
zipped_back Z [] [] i x h k = absurd (cc)
zipped_back Z [] (z ∷ ys) i x h k = absurd h
zipped_back Z (w ∷ xs) [] i x h k = absurd h
zipped_back {A} Z (w ∷ xs) (z ∷ ys) zero x h k = let same : w ≡ x = cc in (z, refl, subst (λ (v : A). Z v z) same h.0)
zipped_back Z (w ∷ xs) (z ∷ ys) (suc i) x h k = zipped_back Z xs ys i x h.1 k

-- where a state starts there is one for which it stands
started : {A B S T : Type 0} (R : ℕ → S → T → Type 0) (f : A → S) (g : B → T) (j : ℕ) (xs : List A) (ys : List B) (i : ℕ) (y : B)
    → AllRelated R j (map f xs) (map g ys) → slice_get ys i ≡ Some y → (x : A) × (slice_get xs i ≡ Some x)
started R f g j [] [] i y h k = absurd (cc)
started R f g j [] (z ∷ ys) i y h k = absurd h
started R f g j (x ∷ xs) [] i y h k = absurd h
started R f g j (x ∷ xs) (z ∷ ys) zero y h k = (x, refl)
started R f g j (x ∷ xs) (z ∷ ys) (suc i) y h k = started R f g (j + 1) xs ys i y h.1 k

module _ (p : Prog) (h : Hosted) (c : Composed) (s : Simulates h c) (m : Implements p c) where
  -- slots that hold a host's state are those of a state that stands for it
  between : (i : ℕ) (x : HostState Env) (vs : List Val) → HoldsTyped h.hosts p.members i x vs → (e : Env) × StandsAt h.hosts i x e × CorrespondsAt c.members i e vs
  between i x vs k = go (slice_get h.hosts i) (slice_get p.members i) refl refl k
    where
      go : (o : Option Host) (q : Option MemberCode) → slice_get h.hosts i ≡ o → slice_get p.members i ≡ q → HoldsIn o q x vs
          → (e : Env) × StandsAt h.hosts i x e × CorrespondsAt c.members i e vs
      go (Some host) (Some code) at there k =
          let z = zipped MatchesMember c.members p.members i code m.tables there in
          let n : Member = z.0 in
          let w = s.held i host n at z.1 x vs k.0 in
          let typed : Fit n.instance.types (variable_fields n.instance.automaton) vs =
          have_fit n.instance.types (variable_fields n.instance.automaton) vs code.start.types (subst (λ t. HaveTypes t vs code.start.types) z.2.types k.1) z.2.variables in (
            w.0,
            λ (other : Host) other_at. let same : host ≡ other = some_same (slice_get h.hosts i) host other at other_at in subst (λ (y : Host). StandsFor y x w.0) same w.1,
            subst (λ (o : Option Member). CorrespondsIn o w.0 vs) (sym z.1) (record { values = w.2; typed = typed }),
          )
      go (Some host) None at there k = absurd k
      go None (Some code) at there k = absurd k
      go None None at there k = absurd k

  through : (i : ℕ) (x : HostState Env) (e : Env) (vs : List Val) → StandsAt h.hosts i x e → CorrespondsAt c.members i e vs → HoldsTyped h.hosts p.members i x vs
  through i x e vs r q = go (slice_get c.members i) refl q
    where
      go : (o : Option Member) → slice_get c.members i ≡ o → CorrespondsIn o e vs → HoldsTyped h.hosts p.members i x vs
      go (Some n) at k =
          let z = zipped_back MatchesMember c.members p.members i n m.tables at in
          let w = started (StandsAt h.hosts) host_start (λ (u : Member). state_of u.instance.automaton u.starts) 0 h.hosts c.members i n s.start at in
          let holds : SlotsHold w.0 x vs = s.slots i w.0 n w.1 at x e vs (r w.0 w.1) (as_many n.instance vs k.typed) k.values in
          let typed : HaveTypes z.0.start.table vs z.0.start.types =
          subst (λ t. HaveTypes t vs z.0.start.types) (sym z.2.types) (fit_have n.instance.types (variable_fields n.instance.automaton) vs z.0.start.types k.typed z.2.variables) in
          subst (λ (u : Option Host). HoldsIn u (slice_get p.members i) x vs) (sym w.1) (subst (λ (u : Option MemberCode). HoldsIn (Some w.0) u x vs) (sym z.1) (holds, typed))
      go None at k = absurd k

-- slots that hold a host's state with their types hold it
held_alone : (p : Prog) (h : Hosted) (i : ℕ) (x : HostState Env) (vs : List Val) → InSlots p (of_hosts h) i x vs → SlotsHoldAt h.hosts i x vs
held_alone p h i x vs k = go (slice_get h.hosts i) refl (slice_get p.members i) k
  where
    go : (o : Option Host) → slice_get h.hosts i ≡ o → (q : Option MemberCode) → HoldsIn o q x vs → (host : Host) → slice_get h.hosts i ≡ Some host → SlotsHold host x vs
    go (Some host) at (Some code) k other there = let same : host ≡ other = some_same (slice_get h.hosts i) host other at there in subst (λ (y : Host). SlotsHold y x vs) same k.0
    go (Some host) at None k other there = absurd k
    go None at (Some code) k other there = absurd k
    go None at None k other there = let none : None ≡ Some other = sym at ∙ there in absurd (cc)

pub all_held : (p : Prog) (h : Hosted) (i : ℕ) (xs : List (HostState Env)) (vss : List (List Val)) → AllRelated (InSlots p (of_hosts h)) i xs vss → AllRelated (SlotsHoldAt h.hosts) i xs vss
all_held p h i [] [] r = tt
all_held p h i [] (vs ∷ vss) r = absurd r
all_held p h i (x ∷ xs) [] r = absurd r
all_held p h i (x ∷ xs) (vs ∷ vss) r = (held_alone p h i x vs r.0, all_held p h (i + 1) xs vss r.1)

-- slots that hold the states of the program's own table are these
pub all_own : (p q : Prog) (i : ℕ) (xs vss : List (List Val)) → AllRelated (InSlots p (of_table q)) i xs vss → xs ≡ vss
all_own p q i [] [] r = refl
all_own p q i [] (vs ∷ vss) r = absurd r
all_own p q i (x ∷ xs) [] r = absurd r
all_own p q i (x ∷ xs) (vs ∷ vss) r = ap₂ (λ (y : List Val) (ys : List (List Val)). y ∷ ys) r.0 (all_own p q (i + 1) xs vss r.1)

-- ---- names

names_by : (ms : List Member) (cs : List MemberCode) → AllZip MatchesMember ms cs → map (λ (c : MemberCode). c.name) cs ≡ map (λ (m : Member). m.name) ms
names_by [] [] a = refl
names_by [] (c ∷ cs) a = absurd a
names_by (m ∷ ms) [] a = absurd a
names_by (m ∷ ms) (c ∷ cs) a = ap₂ (λ (x : Name) (xs : List Name). x ∷ xs) a.0.name (names_by ms cs a.1)

made_names : (hs : List Host) (ms : List Member) → AllZip IsMadeOf hs ms → map (λ (m : Member). m.name) ms ≡ map (λ (p : Host). p.name) hs
made_names [] [] a = refl
made_names [] (m ∷ ms) a = absurd a
made_names (h ∷ hs) [] a = absurd a
made_names (h ∷ hs) (m ∷ ms) a = ap₂ (λ (x : Name) (xs : List Name). x ∷ xs) a.0.name (made_names hs ms a.1)

likes_length : {S T : Type 0} (R : ℕ → S → T → Type 0) (i : ℕ) (ps : List (Component S)) (qs : List (Component T)) → AllLike R i ps qs → length ps ≡ length qs
likes_length R i [] [] l = refl
likes_length R i [] (q ∷ qs) l = absurd l
likes_length R i (p ∷ ps) [] l = absurd l
likes_length R i (p ∷ ps) (q ∷ qs) l = omega (arith, likes_length R (i + 1) ps qs l.1)

-- ---- what is so of each subject as which a program runs

-- the program has the subject's types, hidden names and names of components; its components do the same where its slots hold the subject's
-- states, and start in such slots
pub record DoesAs (p : Prog) (s : Subject) : Type 0 where
  pub types : p.types ≡ its_types s
  pub hidden : p.hidden ≡ its_hidden s
  pub names : map (λ (m : MemberCode). m.name) p.members ≡ its_names s
  pub components : AllLike (InSlots p s) 0 (its_components s) (tabled p)
  pub starts : AllRelated (InSlots p s) 0 (its_starts s) (start_states p)

hosts_done : (p : Prog) (h : Hosted) (c : Composed) → Simulates h c → Implements p c → DoesAs p (of_hosts h)
hosts_done p h c s m = record {
  types = m.types ∙ s.types;
  hidden = m.hidden ∙ s.hidden;
  names = names_by c.members p.members m.tables ∙ made_names h.hosts c.members s.members;
  components = likes_through (StandsAt h.hosts) (CorrespondsAt c.members) (HoldsTyped h.hosts p.members) (between p h c s m) (through p h c s m) 0 (hosts_of h) (components_of c) (tabled p) s.like m.components;
  starts = all_through (StandsAt h.hosts) (CorrespondsAt c.members) (HoldsTyped h.hosts p.members) (between p h c s m) (through p h c s m) 0 (host_starts h) (starts_of c) (start_states p) s.start m.starts;
}

composition_done : (p : Prog) (c : Composed) → Implements p c → DoesAs p (of_composition c)
composition_done p c m = record { types = m.types; hidden = m.hidden; names = names_by c.members p.members m.tables; components = m.components; starts = m.starts }

table_done : (p : Prog) → DoesAs p (of_table p)
table_done p = record { types = refl; hidden = refl; names = refl; components = own_like 0 (tabled p); starts = own_states 0 (start_states p) }

pub does_as : (p : Prog) (s : Subject) → RunsAs p s → DoesAs p s
does_as p (of_hosts h) runs = hosts_done p h runs.0 runs.1 runs.2
does_as p (of_composition c) runs = composition_done p c runs
does_as p (of_table q) same = subst (λ (x : Prog). DoesAs p (of_table x)) same (table_done p)

-- an action has the same owner and participants and is external in both; a run performs the same actions up to the same end, has the same trace,
-- and reaches slots that hold the subject's states; and so a step
module _ (p : Prog) (s : Subject) (runs : RunsAs p s) where
  pub many_as : length (tabled p) ≡ length (its_components s)
  many_as = sym (likes_length (InSlots p s) 0 (its_components s) (tabled p) (does_as p s runs).components)

  pub owner_as : (a : Act) → owner (tabled p) a ≡ owner (its_components s) a
  owner_as a = sym (owner_like (InSlots p s) 0 (its_components s) (tabled p) a (does_as p s runs).components)

  pub participants_as : (a : Act) → participants (tabled p) a ≡ participants (its_components s) a
  participants_as a = sym (participants_like (InSlots p s) 0 (its_components s) (tabled p) a (does_as p s runs).components)

  pub external_as : (a : Act) → is_external p.hidden (tabled p) a ≡ is_external (its_hidden s) (its_components s) a
  external_as a =
      ap (λ (hidden : List Name). is_external hidden (tabled p) a) (does_as p s runs).hidden
      ∙ sym (external_like (InSlots p s) 0 (its_hidden s) (its_components s) (tabled p) a (does_as p s runs).components)

  pub step_as : (a : Act) (ss : List (State s)) (slots : List (List Val)) → AllRelated (InSlots p s) 0 ss slots → MovesLike (InSlots p s) 0 (step (its_components s) a ss) (step (tabled p) a slots)
  step_as a ss slots r = step_like (InSlots p s) (its_components s) (tabled p) a ss slots (does_as p s runs).components r

  pub run_as : (acts : List Act) → RunsLike (InSlots p s) (run (its_components s) acts (its_starts s)) (run (tabled p) acts (start_states p))
  run_as acts = run_like (InSlots p s) (its_components s) (tabled p) acts (its_starts s) (start_states p) (does_as p s runs).components (does_as p s runs).starts

  pub trace_as : (acts : List Act) (n : ℕ) → trace p.hidden (tabled p) acts n ≡ trace (its_hidden s) (its_components s) acts n
  trace_as acts n =
      ap (λ (hidden : List Name). trace hidden (tabled p) acts n) (does_as p s runs).hidden
      ∙ sym (trace_like (InSlots p s) (its_hidden s) (its_components s) (tabled p) acts n (does_as p s runs).components)
