-- The states that are lent to participants.
use Rattle.std.proofs.Common.{◌≡◌, ℕ, ℤ, zero, suc, ◌+◌, ◌<◌, List, [], ◌∷◌, length, get_or, drop, map, filter, All, Some, refl, sym, ◌∙◌, ap, subst, arith}
use Rattle.std.specs.Prelude.{slice_get}
use Rattle.std.proofs.lemmas.List.{length-map}
use Rattle.std.proofs.lemmas.List.Elements.{All-head, All-tail, All-cons}
use Rattle.std.proofs.lemmas.Option.{slice_get-get_or}
use Rattle.ioa_value.specs.Actions.{Act}
use Rattle.ioa_parts.specs.Nodes.{Node}
use Rattle.ioa_tree.specs.Components.{has}
use Rattle.ioa_tree.specs.Steps.{participants, step}
use Rattle.ioa_compile.specs.Programs.{MemberCode, Prog}
use Rattle.ioa_compile.specs.Shown.{entry_code}
use Rattle.ioa_compile.specs.Tables.{AreEntries, AreMembers, entry_of, tabled}
use Rattle.ioa_system.specs.declared.participation.Participant.{Participant}
use Rattle.ioa_system.specs.Found.{member_of, components_of, numbers_of, placed, AreParticipants, state_of, lent, lent_types, IsLent, HaveOneTable, AreArguments, AreReady}
use Rattle.ioa_value.specs.Table.{Table}
use Rattle.ioa_words.specs.Layout.{flat_all}
use Rattle.ioa_value.proofs.ItemLemmas.{image_at}
use Rattle.ioa_system.specs.Participants.{taken, renumbered, step_from}
use Rattle.ioa_system.specs.Systems.{types_of, values_of, slot_types, slots_of}
use Rattle.ioa_system.proofs.Participating.{ItemAt, item_at, taken_some}
use Rattle.ioa_system.proofs.Finding.{tables}

pub same_length : (ms : List MemberCode) (ns : List Node) → types_of ns ≡ slot_types ms → length ns ≡ length ms
same_length ms ns h = sym (length-map ns slots_of) ∙ ap length h ∙ length-map ms (λ (m : MemberCode). slots_of m.start)

sound_got : (types : Table) (ms : List MemberCode) (i : ℕ) (m : MemberCode) → AreMembers types ms → slice_get ms i ≡ Some m → AreEntries m m.entries
sound_got types [] i m h e = absurd (cc)
sound_got types (x ∷ ms) zero m h e = let q : x ≡ m = cc in subst (λ (y : MemberCode). AreEntries y y.entries) q h.0.entries
sound_got types (x ∷ ms) (suc i) m h e = sound_got types ms i m h.1 e

pub all_sound : (types : Table) (a : Act) (ms : List MemberCode) (qs : List Participant) → AreParticipants a ms qs → AreMembers types ms → All (λ q. AreEntries (member_of q) (member_of q).entries) qs
all_sound types a ms qs p h = λ k d l. let q : Participant = get_or qs k d in sound_got types ms q.component (member_of q) h (p.members k d l)

table_got : (types : Table) (ms : List MemberCode) (i : ℕ) (m : MemberCode) → AreMembers types ms → slice_get ms i ≡ Some m → m.start.table ≡ types
table_got types [] i m h e = absurd (cc)
table_got types (x ∷ ms) zero m h e = let q : x ≡ m = cc in subst (λ (y : MemberCode). y.start.table ≡ types) q h.0.types_are
table_got types (x ∷ ms) (suc i) m h e = table_got types ms i m h.1 e

all_alike : (types : Table) (a : Act) (ms : List MemberCode) (qs : List Participant) → AreParticipants a ms qs → AreMembers types ms → All (λ q. (member_of q).start.table ≡ types) qs
all_alike types a ms qs p h = λ k d l. let q : Participant = get_or qs k d in table_got types ms q.component (member_of q) h (p.members k d l)

-- words of the action's values by the types of the first participant are so by those of each
pub arguments_of : (a : Act) (qs : List Participant) (q : Participant) (ws : List ℤ) → HaveOneTable qs → 0 < length qs → q ≡ get_or qs 0 q → ws ≡ flat_all (member_of q).start.table a.vals → AreArguments a qs ws
arguments_of a qs q ws h l e w =
    let first : (member_of q).start.table ≡ h.0 = subst (λ (p : Participant). (member_of p).start.table ≡ h.0) (sym e) (h.1 0 q l) in
    λ k d m. w ∙ ap (λ t. flat_all t a.vals) (first ∙ sym (h.1 k d m))

-- the items of the participants' numbers, where each is known
pub taken_map : {X : Type 0} (f : Participant → X) (xs : List X) (qs : List Participant) → All (λ q. slice_get xs q.component ≡ Some (f q)) qs
    → taken (numbers_of qs) xs ≡ map f qs
taken_map f xs [] h = refl
taken_map f xs (q ∷ qs) h =
    taken_some q.component (numbers_of qs) xs (f q) (All-head (λ p. slice_get xs p.component ≡ Some (f p)) q qs h)
    ∙ ap (λ ys. f q ∷ ys) (taken_map f xs qs (All-tail (λ p. slice_get xs p.component ≡ Some (f p)) q qs h))

pub types_taken : (a : Act) (ms : List MemberCode) (qs : List Participant) → AreParticipants a ms qs → taken (participants (tables ms) a) (slot_types ms) ≡ lent_types qs
types_taken a ms qs p =
    ap (λ ns. taken ns (slot_types ms)) (sym p.numbers)
    ∙ taken_map (λ q. slots_of (member_of q).start) (slot_types ms) qs
    (λ k d l. let q : Participant = get_or qs k d in image_at (λ (m : MemberCode). slots_of m.start) ms q.component (member_of q) (p.members k d l))

-- ---- all components' states at hand

record Stands (ns : List Node) (i : ℕ) (m : MemberCode) : Type 0 where
  within : i < length ns
  types : slots_of (get_or ns i m.start) ≡ slots_of m.start

stands : (ms : List MemberCode) (ns : List Node) (i : ℕ) (m : MemberCode) → types_of ns ≡ slot_types ms → slice_get ms i ≡ Some m → Stands ns i m
stands [] ns i m h e = absurd (cc)
stands (x ∷ ms) [] i m h e = absurd (cc)
stands (x ∷ ms) (n ∷ ns) zero m h e =
    let t : slots_of n ≡ slots_of x.start = cc in
    let q : x ≡ m = cc in
    record { within = omega arith; types = t ∙ ap (λ (y : MemberCode). slots_of y.start) q }
stands (x ∷ ms) (n ∷ ns) (suc i) m h e =
    let t : types_of ns ≡ slot_types ms = cc in
    let r : Stands ns i m = stands ms ns i m t e in
    let w : i < length ns = r.within in
    record { within = omega arith; types = r.types }

pub ready_all : (types : Table) (a : Act) (ms : List MemberCode) (ns : List Node) (qs : List Participant) → AreParticipants a ms qs
    → AreMembers types ms → types_of ns ≡ slot_types ms → AreReady a ns qs
ready_all types a ms ns qs p h t = record {
  entries = p.entries;
  table = (types, all_alike types a ms qs p h);
  sound = all_sound types a ms qs p h;
  states = λ k d l.
      let q : Participant = get_or qs k d in
      let s : Stands ns q.component (member_of q) = stands ms ns q.component (member_of q) t (p.members k d l) in
      subst (λ j. (j < length ns) × (slots_of (get_or ns j (member_of q).start) ≡ slots_of (member_of q).start)) (sym (p.places k d l)) (s.within, s.types);
}

pub lent_all : (a : Act) (ms : List MemberCode) (ns : List Node) (qs : List Participant) → AreParticipants a ms qs
    → types_of ns ≡ slot_types ms → lent ns qs ≡ taken (participants (tables ms) a) (values_of ns)
lent_all a ms ns qs p t =
    sym (ap (λ xs. taken xs (values_of ns)) (sym p.numbers)
    ∙ taken_map (λ q. (state_of ns q).values) (values_of ns) qs
    (λ k d l.
    let q : Participant = get_or qs k d in
    let s : Stands ns q.component (member_of q) = stands ms ns q.component (member_of q) t (p.members k d l) in
    image_at (λ (n : Node). n.values) ns q.component (state_of ns q)
    (slice_get-get_or ns q.component (member_of q).start s.within ∙ ap (λ (j : ℕ). Some (get_or ns j (member_of q).start)) (sym (p.places k d l)))))

-- the participants' numbers are the states' places
pub within_all : (a : Act) (ms : List MemberCode) (ns : List Node) (qs : List Participant) → AreParticipants a ms qs → types_of ns ≡ slot_types ms
    → All (λ q. q.component < length ns) qs
within_all a ms ns qs p t = λ k d l. let q : Participant = get_or qs k d in (stands ms ns q.component (member_of q) t (p.members k d l)).within

-- ---- the participants' states alone at hand

pub placed_components : (i : ℕ) (qs : List Participant) → components_of (placed i qs) ≡ components_of qs
placed_components i [] = refl
placed_components i (q ∷ qs) = let e = placed_components (i + 1) qs in rw e refl

pub placed_numbers : (i : ℕ) (qs : List Participant) → numbers_of (placed i qs) ≡ numbers_of qs
placed_numbers i [] = refl
placed_numbers i (q ∷ qs) = let e = placed_numbers (i + 1) qs in rw e refl

pub placed_types : (i : ℕ) (qs : List Participant) → lent_types (placed i qs) ≡ lent_types qs
placed_types i [] = refl
placed_types i (q ∷ qs) = let e = placed_types (i + 1) qs in rw e refl

pub length-placed : (i : ℕ) (qs : List Participant) → length (placed i qs) ≡ length qs
length-placed i [] = refl
length-placed i (q ∷ qs) = let e : length (placed (i + 1) qs) ≡ length qs = length-placed (i + 1) qs in omega arith

placed_all : (P : Participant → Type 0) → ((q : Participant) (j : ℕ) → P q → P (record q { place = j })) → (i : ℕ) (qs : List Participant) → All P qs → All P (placed i qs)
placed_all P keeps i [] h = h
placed_all P keeps i (q ∷ qs) h =
    All-cons P (record q { place = i }) (placed (i + 1) qs) (keeps q i (All-head P q qs h)) (placed_all P keeps (i + 1) qs (All-tail P q qs h))

lent_alone_from : (all : List Node) (i : ℕ) (ns : List Node) (qs : List Participant) → drop i all ≡ ns → types_of ns ≡ lent_types qs → All (IsLent all) (placed i qs) × (lent all (placed i qs) ≡ values_of ns)
lent_alone_from all i [] [] d t = (λ k e l. absurd (omega arith), refl)
lent_alone_from all i [] (q ∷ qs) d t = absurd (cc)
lent_alone_from all i (n ∷ ns) [] d t = absurd (cc)
lent_alone_from all i (n ∷ ns) (q ∷ qs) d t =
    let r : ItemAt all i n ns = item_at all i n ns d in
    let g : get_or all i (member_of q).start ≡ n = r.is (member_of q).start in
    let u : slots_of n ≡ slots_of (member_of q).start = cc in
    let v : types_of ns ≡ lent_types qs = cc in
    let more = lent_alone_from all (i + 1) ns qs r.rest v in (
      All-cons (IsLent all) (record q { place = i }) (placed (i + 1) qs) (r.within, ap slots_of g ∙ u) more.0,
      rw (g, more.1) refl,
    )

pub ready_alone : (types : Table) (a : Act) (ms : List MemberCode) (ns : List Node) (qs : List Participant) → AreParticipants a ms qs → AreMembers types ms
    → types_of ns ≡ taken (participants (tables ms) a) (slot_types ms) → AreReady a ns (placed 0 qs)
ready_alone types a ms ns qs p h t = record {
  entries = placed_all (λ q. entry_of (member_of q) a ≡ Some (entry_code q.entry.now)) (λ q j e. e) 0 qs p.entries;
  table = (types, placed_all (λ q. (member_of q).start.table ≡ types) (λ q j e. e) 0 qs (all_alike types a ms qs p h));
  sound = placed_all (λ q. AreEntries (member_of q) (member_of q).entries) (λ q j e. e) 0 qs (all_sound types a ms qs p h);
  states = (lent_alone_from ns 0 ns qs refl (t ∙ types_taken a ms qs p)).0;
}

pub lent_alone : (a : Act) (ms : List MemberCode) (ns : List Node) (qs : List Participant) → AreParticipants a ms qs
    → types_of ns ≡ taken (participants (tables ms) a) (slot_types ms) → lent ns (placed 0 qs) ≡ values_of ns
lent_alone a ms ns qs p t = (lent_alone_from ns 0 ns qs refl (t ∙ types_taken a ms qs p)).1

-- what a step of the participants' states alone is made of
pub step_alone : (p : Prog) (a : Act) (ns : List Node) (qs rs : List Participant) → AreParticipants a p.members qs → rs ≡ placed 0 qs
    → types_of ns ≡ taken (participants (tabled p) a) (slot_types p.members)
    → renumbered (numbers_of rs) (step (components_of rs) a (lent ns rs)) ≡ step_from (tabled p) a (values_of ns)
step_alone p a ns qs rs f e t =
    let n : numbers_of rs ≡ participants (tabled p) a = ap numbers_of e ∙ placed_numbers 0 qs ∙ f.numbers in
    let c : components_of rs ≡ filter (has a) (tabled p) = ap components_of e ∙ placed_components 0 qs ∙ f.components in
    let l : lent ns rs ≡ values_of ns = ap (lent ns) e ∙ lent_alone a p.members ns qs f t in
    rw (n, c, l) refl

pub types_alone : (p : Prog) (a : Act) (ns : List Node) (qs rs : List Participant) → AreParticipants a p.members qs → rs ≡ placed 0 qs
    → types_of ns ≡ taken (participants (tabled p) a) (slot_types p.members) → lent_types rs ≡ types_of ns
types_alone p a ns qs rs f e t = ap lent_types e ∙ placed_types 0 qs ∙ sym (types_taken a p.members qs f) ∙ sym t
