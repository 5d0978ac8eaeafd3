-- The edges of a graph are the actions that pass between components.
use Rattle.std.proofs.Common.{◌≡◌, ◌≢◌, ℕ, zero, suc, ◌+◌, ◌<◌, ◌&&◌, Bool, true, false, not, cond, List, [], ◌∷◌, length, map, find, Option, Some, None, refl, sym, ap, subst, ◌∙◌, arith, All}
use Rattle.std.specs.Prelude.{slice_get}
use Rattle.std.specs.List.{Contains, list_any}
use Rattle.std.specs.Option.{option_map, option_map_or}
use Rattle.std.specs.Str.{bytes_eq}
use Rattle.std.proofs.lemmas.Bool.{and_parts, and_from, both_ways, not-true, or_left, or_right}
use Rattle.std.proofs.lemmas.Option.{get_or_from_slice_get, slice_get_read, slice_get_within}
use Rattle.std.proofs.lemmas.Slice.Eq.{bytes_eq-Decides}
use Rattle.ioa_value.specs.Actions.{Act, Name}
use Rattle.ioa_value.specs.Positions.{IsDomain, all_meet, all_take}
use Rattle.ioa_value.specs.Table.{Table, contains, distinct}
use Rattle.ioa_value.proofs.ItemLemmas.{find_at, get_map, image_at, some_at}
use Rattle.ioa_value.proofs.NameLemmas.{first_there}
use Rattle.ioa_value.proofs.PositionLemmas.{all_meet-some, all_take-meet}
use Rattle.ioa_tree.specs.declared.tree.Kind.{Kind}
use Rattle.ioa_tree.specs.declared.tree.Kind.TheVariants.{Input, Output, Internal}
use Rattle.ioa_tree.specs.Components.{Compatible, Component, is_local, owns}
use Rattle.ioa_tree.specs.Steps.{owner, owner_from}
use Rattle.ioa_compile.specs.Programs.{EntryCode, MemberCode, Prog}
use Rattle.ioa_compile.specs.Tables.{AreEntries, AreMembers, IsEntry, IsMember, IsProgram, entry_of, is_in, table_component, tabled}
use Rattle.ioa_picture.specs.Edges.{GivenArePassed, IsEntryAt, Passes, TakersTake, kind_at}
use Rattle.ioa_picture.specs.Graphs.{has_of, is_given, is_kind, shares, takers}
use Rattle.ioa_picture.specs.Lines.{numbers}

same_item : {X : Type 0} {x y : X} {o : Option X} → o ≡ Some x → o ≡ Some y → x ≡ y
same_item {x = x} {y = y} e f = let q : Some x ≡ Some y = sym e ∙ f in cc

-- ---- numbers of items

-- a number stands in its place
record Stands (xs : List ℕ) (j : ℕ) : Type 0 where
  place : ℕ
  here : slice_get xs place ≡ Some j

contained : (xs : List ℕ) (j : ℕ) → Stands xs j → Contains xs j
contained xs j s = (s.place, slice_get_within xs s.place j s.here, get_or_from_slice_get xs s.place j j s.here)

stands : (xs : List ℕ) (j : ℕ) → Contains xs j → Stands xs j
stands xs j c = record { place = c.0; here = slice_get_read xs (length xs) c.0 j refl c.1 (sym c.2) }

module _ {A : Type 0} (holds : A → Bool) where
  -- a number is that of an item of which it is true
  record IsNumber (n : ℕ) (xs : List A) (j : ℕ) : Type 0 where
    place : ℕ
    is : j ≡ n + place
    item : A
    here : slice_get xs place ≡ Some item
    true_of : holds item ≡ true

  first_is : (n : ℕ) (x : A) (xs : List A) (j : ℕ) → holds x ≡ true → n ≡ j → IsNumber n (x ∷ xs) j
  first_is n x xs j h e = record { place = 0; is = omega (arith, e); item = x; here = refl; true_of = h }

  later_is : (n : ℕ) (x : A) (xs : List A) (j : ℕ) → IsNumber (n + 1) xs j → IsNumber n (x ∷ xs) j
  later_is n x xs j k = record { place = suc k.place; is = omega (arith, k.is); item = k.item; here = k.here; true_of = k.true_of }

  is_number : (n : ℕ) (xs : List A) (k j : ℕ) → slice_get (numbers holds n xs) k ≡ Some j → IsNumber n xs j
  is_number n [] k j e = absurd (cc)
  is_number n (x ∷ xs) k j e = split (holds x) refl (λ i f. is_number (n + 1) xs i j f) k e
    where
      split : (b : Bool) → holds x ≡ b → ((i : ℕ) → slice_get (numbers holds (n + 1) xs) i ≡ Some j → IsNumber (n + 1) xs j)
          → (k : ℕ) → slice_get (cond b (n ∷ numbers holds (n + 1) xs) (numbers holds (n + 1) xs)) k ≡ Some j → IsNumber n (x ∷ xs) j
      split true h later zero f = let q : n ≡ j = cc in first_is n x xs j h q
      split true h later (suc k) f = later_is n x xs j (later k f)
      split false h later k f = later_is n x xs j (later k f)

  stands_so : (n : ℕ) (xs : List A) (i : ℕ) (x : A) → slice_get xs i ≡ Some x → holds x ≡ true → Stands (numbers holds n xs) (n + i)
  stands_so n [] i x e h = absurd (cc)
  stands_so n (y ∷ ys) zero x e h =
      let same : y ≡ x = cc in
      let here : numbers holds n (y ∷ ys) ≡ n ∷ numbers holds (n + 1) ys = ap (λ b. cond b (n ∷ numbers holds (n + 1) ys) (numbers holds (n + 1) ys)) (ap holds same ∙ h) in
      let first : n ≡ n + 0 = omega arith in
      record { place = 0; here = ap (λ l. slice_get l 0) here ∙ ap (λ (k : ℕ). Some k) first }
  stands_so n (y ∷ ys) (suc i) x e h = split (holds y) (stands_so (n + 1) ys i x e h)
    where
      next : n + 1 + i ≡ n + suc i
      next = omega arith

      split : (b : Bool) → Stands (numbers holds (n + 1) ys) (n + 1 + i) → Stands (cond b (n ∷ numbers holds (n + 1) ys) (numbers holds (n + 1) ys)) (n + suc i)
      split true s = record { place = suc s.place; here = s.here ∙ ap (λ (k : ℕ). Some k) next }
      split false s = record { place = s.place; here = s.here ∙ ap (λ (k : ℕ). Some k) next }

any_of : {X : Type 0} (q : X → Bool) (xs : List X) (i : ℕ) (x : X) → slice_get xs i ≡ Some x → q x ≡ true → list_any q xs ≡ true
any_of q [] i x e h = absurd (cc)
any_of q (y ∷ ys) zero x e h = let same : y ≡ x = cc in or_left (q y) (list_any q ys) (ap q same ∙ h)
any_of q (y ∷ ys) (suc i) x e h = or_right (q y) (list_any q ys) (any_of q ys i x e h)

-- ---- entries and their actions

same_names : (x y : Name) → bytes_eq x y ≡ true → x ≡ y
same_names x y h = (bytes_eq-Decides x y).0 h

names_same : (x y : Name) → x ≡ y → bytes_eq x y ≡ true
names_same x y e = (bytes_eq-Decides x y).1 e

there : (es : List EntryCode) (k : ℕ) (e : EntryCode) (x : Name) → slice_get es k ≡ Some e → bytes_eq e.name x ≡ true → contains (map (λ d. d.name) es) x ≡ true
there [] k e x h g = absurd (cc)
there (d ∷ ds) zero e x h g = let q : d ≡ e = cc in or_left _ _ (ap (λ (y : EntryCode). bytes_eq y.name x) q ∙ g)
there (d ∷ ds) (suc k) e x h g = or_right _ _ (there ds k e x h g)

-- a search by an action finds the entry that has it
finds : (types : Table) (a : Act) (es : List EntryCode) (k : ℕ) (e : EntryCode) → distinct (map (λ d. d.name) es) ≡ true
    → slice_get es k ≡ Some e → is_in types a e ≡ true → find (is_in types a) es ≡ Some e
finds types a [] k e d h g = absurd (cc)
finds types a (x ∷ xs) zero e d h g =
    let q : x ≡ e = cc in
    ap (λ b. cond b (Some x) (find (is_in types a) xs)) (ap (is_in types a) q ∙ g) ∙ ap (λ y. Some y) q
finds types a (x ∷ xs) (suc k) e d h g =
    let ds = and_parts (not (contains (map (λ d. d.name) xs) x.name)) (distinct (map (λ d. d.name) xs)) d in
    let mine = and_parts (bytes_eq e.name a.name) (all_take types e.positions a.vals) g in
    split (is_in types a x) refl ds.0 mine.0 (finds types a xs k e ds.1 h g)
  where
    split : (b : Bool) → is_in types a x ≡ b → not (contains (map (λ d. d.name) xs) x.name) ≡ true → bytes_eq e.name a.name ≡ true
        → find (is_in types a) xs ≡ Some e → cond b (Some x) (find (is_in types a) xs) ≡ Some e
    split false q n c later = later
    split true q n c later =
        let theirs = and_parts (bytes_eq x.name a.name) (all_take types x.positions a.vals) q in
        let same : e.name ≡ x.name = same_names e.name a.name c ∙ sym (same_names x.name a.name theirs.0) in
        absurd (both_ways (contains (map (λ d. d.name) xs) x.name) (not-true _ n) (there xs k e x.name h (names_same e.name x.name same)))

member_at : (types : Table) (ms : List MemberCode) (i : ℕ) (m : MemberCode) → AreMembers types ms → slice_get ms i ≡ Some m → IsMember types m
member_at types [] i m h e = absurd (cc)
member_at types (x ∷ ms) zero m h e = let q : x ≡ m = cc in subst (IsMember types) q h.0
member_at types (x ∷ ms) (suc i) m h e = member_at types ms i m h.1 e

entry_at : (m : MemberCode) (es : List EntryCode) (k : ℕ) (e : EntryCode) → AreEntries m es → slice_get es k ≡ Some e → IsEntry m e
entry_at m [] k e h at = absurd (cc)
entry_at m (x ∷ es) zero e h at = let q : x ≡ e = cc in subst (IsEntry m) q h.0
entry_at m (x ∷ es) (suc k) e h at = entry_at m es k e h.1 at

kind_is : (k l : Kind) → is_kind k l ≡ true → l ≡ k
kind_is Input Input h = refl
kind_is Output Output h = refl
kind_is Internal Internal h = refl
kind_is Input Output h = absurd (cc)
kind_is Input Internal h = absurd (cc)
kind_is Output Input h = absurd (cc)
kind_is Output Internal h = absurd (cc)
kind_is Internal Input h = absurd (cc)
kind_is Internal Output h = absurd (cc)

is_itself : (k l : Kind) → l ≡ k → is_kind k l ≡ true
is_itself Input l e = rw e refl
is_itself Output l e = rw e refl
is_itself Internal l e = rw e refl

-- ---- the owner of an action

record IsOwner {S : Type 0} (n : ℕ) (ps : List (Component S)) (a : Act) (i : ℕ) : Type 0 where
  place : ℕ
  is : i ≡ n + place
  component : Component S
  here : slice_get ps place ≡ Some component
  own : owns a component ≡ true

-- no kind but these is local
not_owner : (o : Option Kind) → (o ≡ Some Internal → ⊥) → (o ≡ Some Output → ⊥) → is_local o ≡ false
not_owner None i h = refl
not_owner (Some Input) i h = refl
not_owner (Some Output) i h = absurd (h refl)
not_owner (Some Internal) i h = absurd (i refl)

module _ {S : Type 0} (a : Act) where
  is_owner : (n : ℕ) (ps : List (Component S)) (i : ℕ) → owner_from n ps a ≡ Some i → IsOwner n ps a i
  is_owner n [] i e = absurd (cc)
  is_owner n (p ∷ ps) i e = split (owns a p) refl (λ f. is_owner (n + 1) ps i f) e
    where
      next : IsOwner (n + 1) ps a i → IsOwner n (p ∷ ps) a i
      next k = record { place = suc k.place; is = omega (arith, k.is); component = k.component; here = k.here; own = k.own }

      split : (b : Bool) → owns a p ≡ b → (owner_from (n + 1) ps a ≡ Some i → IsOwner (n + 1) ps a i) → cond b (Some n) (owner_from (n + 1) ps a) ≡ Some i → IsOwner n (p ∷ ps) a i
      split true h later f = let q : n ≡ i = cc in record { place = 0; is = omega (arith, q); component = p; here = refl; own = h }
      split false h later f = next (later f)

  -- the first component that owns the action
  first_owner : (n : ℕ) (ps : List (Component S)) (i : ℕ) (p : Component S) → slice_get ps i ≡ Some p → owns a p ≡ true
      → ((k : ℕ) (q : Component S) → k < i → slice_get ps k ≡ Some q → owns a q ≡ false) → owner_from n ps a ≡ Some (n + i)
  first_owner n [] i p e h none = absurd (cc)
  first_owner n (q ∷ ps) zero p e h none =
      let same : q ≡ p = cc in
      let first : n ≡ n + 0 = omega arith in
      ap (λ b. cond b (Some n) (owner_from (n + 1) ps a)) (ap (owns a) same ∙ h) ∙ ap (λ (k : ℕ). Some k) first
  first_owner n (q ∷ ps) (suc i) p e h none =
      let next : n + 1 + i ≡ n + suc i = omega arith in
      ap (λ b. cond b (Some n) (owner_from (n + 1) ps a)) (none 0 q (omega arith) refl)
      ∙ first_owner (n + 1) ps i p e h (λ k r l at. none (suc k) r (omega arith) at) ∙ ap (λ (k : ℕ). Some k) next

  owner_is : (ps : List (Component S)) → Compatible ps → (i : ℕ) (p : Component S) → slice_get ps i ≡ Some p → p.kind_of a ≡ Some Output → owner ps a ≡ Some i
  owner_is ps c i p e h =
      let zero_first : 0 + i ≡ i = omega arith in
      first_owner 0 ps i p e (ap is_local h) (λ k q l at.
      not_owner (q.kind_of a)
      (λ internal. let none : p.kind_of a ≡ None = (c k i q p a (λ same. omega (arith, same, l)) at e).0 internal in let z : Some Output ≡ None = sym h ∙ none in cc)
      (λ output. (c k i q p a (λ same. omega (arith, same, l)) at e).1 output h))
      ∙ ap (λ (k : ℕ). Some k) zero_first

-- ---- a program's entries

module _ (p : Prog) (sound : IsProgram p) where
  -- an entry of a component, as an action sees it
  record IsSeen (i : ℕ) (m : MemberCode) (e : EntryCode) : Type 0 where
    here : slice_get p.members i ≡ Some m
    place : ℕ
    among : slice_get m.entries place ≡ Some e

  is_member : (i : ℕ) (m : MemberCode) → slice_get p.members i ≡ Some m → IsMember p.types m
  is_member i m e = member_at p.types p.members i m sound.members e

  domains : (i : ℕ) (m : MemberCode) (e : EntryCode) → IsSeen i m e → All (IsDomain p.types) e.positions
  domains i m e s =
      let of = is_member i m s.here in
      subst (λ ts. All (IsDomain ts) e.positions) of.types_are (entry_at m m.entries s.place e of.entries s.among).positions

  -- the component has an action of the entry by this entry
  has_by : (i : ℕ) (m : MemberCode) (e : EntryCode) (a : Act) → IsSeen i m e → is_in p.types a e ≡ true → entry_of m a ≡ Some e
  has_by i m e a s h =
      let of = is_member i m s.here in
      finds m.start.table a m.entries s.place e of.names s.among (subst (λ ts. is_in ts a e ≡ true) (sym of.types_are) h)

  kind_by : (i : ℕ) (m : MemberCode) (e : EntryCode) (a : Act) → IsSeen i m e → is_in p.types a e ≡ true → (table_component m).kind_of a ≡ Some e.kind
  kind_by i m e a s h = ap (option_map (λ (d : EntryCode). d.kind)) (has_by i m e a s h)

  kind_here : (i : ℕ) (m : MemberCode) (a : Act) → slice_get p.members i ≡ Some m → kind_at p i a ≡ (table_component m).kind_of a
  kind_here i m a e = ap (λ o. option_map_or (λ (n : MemberCode). (table_component n).kind_of a) o None) e

  -- an action that a component has is in an entry of it
  record HasEntry (i : ℕ) (k : Kind) (a : Act) : Type 0 where
    member : MemberCode
    entry : EntryCode
    seen : IsSeen i member entry
    is_kind : entry.kind ≡ k
    has : is_in p.types a entry ≡ true

  found : (m : MemberCode) (k : Kind) (a : Act) → (table_component m).kind_of a ≡ Some k → (e : EntryCode) × (entry_of m a ≡ Some e) × (e.kind ≡ k)
  found m k a h = go (entry_of m a) refl h
    where
      go : (o : Option EntryCode) → entry_of m a ≡ o → option_map (λ (d : EntryCode). d.kind) o ≡ Some k → (e : EntryCode) × (entry_of m a ≡ Some e) × (e.kind ≡ k)
      go None f g = absurd (cc)
      go (Some e) f g = let q : e.kind ≡ k = cc in (e, f, q)

  entry_in : (i : ℕ) (m : MemberCode) (k : Kind) (a : Act) → slice_get p.members i ≡ Some m → (table_component m).kind_of a ≡ Some k → HasEntry i k a
  entry_in i m k a here h =
      let of = is_member i m here in
      let (e, is, kind) = found m k a h in
      let at = find_at (is_in m.start.table a) m.entries e is in
      record {
        member = m;
        entry = e;
        seen = record { here = here; place = at.0; among = at.1 };
        is_kind = kind;
        has = subst (λ ts. is_in ts a e ≡ true) of.types_are at.2;
      }

  entry_has : (i : ℕ) (k : Kind) (a : Act) → kind_at p i a ≡ Some k → HasEntry i k a
  entry_has i k a h = go (slice_get p.members i) refl h
    where
      go : (o : Option MemberCode) → slice_get p.members i ≡ o → option_map_or (λ (n : MemberCode). (table_component n).kind_of a) o None ≡ Some k → HasEntry i k a
      go None f g = absurd (cc)
      go (Some m) f g = entry_in i m k a f g

  -- two entries that share an action, and their kinds
  record Common (e f : EntryCode) : Type 0 where
    action : Act
    named : action.name ≡ e.name
    first : is_in p.types action e ≡ true
    second : is_in p.types action f ≡ true

  common : (e f : EntryCode) → All (IsDomain p.types) e.positions → All (IsDomain p.types) f.positions
      → bytes_eq e.name f.name && all_meet p.types e.positions f.positions ≡ true → Common e f
  common e f d g h =
      let parts = and_parts (bytes_eq e.name f.name) (all_meet p.types e.positions f.positions) h in
      let vs = all_meet-some p.types e.positions f.positions sound.types d g parts.1 in
      let other : bytes_eq f.name e.name ≡ true = names_same f.name e.name (sym (same_names e.name f.name parts.0)) in
      record {
        action = record { name = e.name; vals = vs.0 };
        named = refl;
        first = and_from (bytes_eq e.name e.name) (all_take p.types e.positions vs.0) (names_same e.name e.name refl) vs.1;
        second = and_from (bytes_eq f.name e.name) (all_take p.types f.positions vs.0) other vs.2;
      }

  sharing : (k : Kind) (e f : EntryCode) (a : Act) → f.kind ≡ k → is_in p.types a e ≡ true → is_in p.types a f ≡ true → shares p.types k e f ≡ true
  sharing k e f a kind h g =
      let mine = and_parts (bytes_eq e.name a.name) (all_take p.types e.positions a.vals) h in
      let theirs = and_parts (bytes_eq f.name a.name) (all_take p.types f.positions a.vals) g in
      and_from (is_kind k f.kind) (bytes_eq e.name f.name && all_meet p.types e.positions f.positions) (is_itself k f.kind kind)
      (and_from (bytes_eq e.name f.name) (all_meet p.types e.positions f.positions)
      (names_same e.name f.name (same_names e.name a.name mine.0 ∙ sym (same_names f.name a.name theirs.0)))
      (all_take-meet p.types e.positions f.positions a.vals mine.1 theirs.1))

  -- a component that has an action of an entry, by an entry of this kind
  record Shares (k : Kind) (e : EntryCode) (j : ℕ) (n : MemberCode) : Type 0 where
    entry : EntryCode
    seen : IsSeen j n entry
    is_kind : entry.kind ≡ k
    both : Common e entry

  has_shared : (k : Kind) (e : EntryCode) (j : ℕ) (n : MemberCode) → All (IsDomain p.types) e.positions → slice_get p.members j ≡ Some n → has_of p.types k e n ≡ true → Shares k e j n
  has_shared k e j n d here h =
      let some = some_at (shares p.types k e) n.entries h in
      let f = some.0 in
      let seen : IsSeen j n f = record { here = here; place = some.1; among = some.2 } in
      let parts = and_parts (is_kind k f.kind) (bytes_eq e.name f.name && all_meet p.types e.positions f.positions) some.3 in
      record { entry = f; seen = seen; is_kind = kind_is k f.kind parts.0; both = common e f d (domains j n f seen) parts.1 }

  shared_has : (k : Kind) (e : EntryCode) (j : ℕ) (a : Act) → is_in p.types a e ≡ true → (s : HasEntry j k a) → has_of p.types k e s.member ≡ true
  shared_has k e j a h s = any_of (shares p.types k e) s.member.entries s.seen.place s.entry s.seen.among (sharing k e s.entry a s.is_kind h s.has)

  -- the entry of this name that has an action is this one
  same_entry : (i : ℕ) (m : MemberCode) (e f : EntryCode) → IsSeen i m e → IsSeen i m f → e.name ≡ f.name → f ≡ e
  same_entry i m e f s t same =
      let of = is_member i m s.here in
      let names = map (λ (d : EntryCode). d.name) m.entries in
      let mine : slice_get names s.place ≡ Some e.name = image_at (λ (d : EntryCode). d.name) m.entries s.place e s.among in
      let theirs : slice_get names t.place ≡ Some e.name = image_at (λ (d : EntryCode). d.name) m.entries t.place f t.among ∙ ap (λ (x : Name). Some x) (sym same) in
      let one : Some s.place ≡ Some t.place = sym (first_there names s.place e.name of.names mine) ∙ first_there names t.place e.name of.names theirs in
      let places : s.place ≡ t.place = cc in
      same_item t.among (ap (slice_get m.entries) (sym places) ∙ s.among)

  owned_by : (i : ℕ) (m : MemberCode) (a : Act) → slice_get p.members i ≡ Some m → (table_component m).kind_of a ≡ Some Output → owner (tabled p) a ≡ Some i
  owned_by i m a here h = owner_is a (tabled p) sound.compatible i (table_component m) (image_at table_component p.members i m here) h

  -- the owner of an action
  record Owned (i : ℕ) (a : Act) : Type 0 where
    member : MemberCode
    here : slice_get p.members i ≡ Some member
    own : owns a (table_component member) ≡ true

  owned_at : (i : ℕ) (a : Act) → owner (tabled p) a ≡ Some i → Owned i a
  owned_at i a h =
      let o = is_owner a 0 (tabled p) i h in
      let at = get_map table_component p.members o.place o.component o.here in
      let same : i ≡ o.place = omega (arith, o.is) in
      record { member = at.0; here = ap (slice_get p.members) same ∙ at.1; own = ap (owns a) at.2 ∙ o.own }

  -- the owner of an action that another component takes has it as output
  output_owner : (i j : ℕ) (a : Act) → owner (tabled p) a ≡ Some i → kind_at p j a ≡ Some Input → HasEntry i Output a
  output_owner i j a h t = go ((table_component o.member).kind_of a) refl o.own
    where
      o : Owned i a
      o = owned_at i a h

      s : HasEntry j Input a
      s = entry_has j Input a t

      taken : (table_component s.member).kind_of a ≡ Some Input
      taken = sym (kind_here j s.member a s.seen.here) ∙ t

      apart : (table_component o.member).kind_of a ≡ Some Internal → i ≢ j
      apart e same =
          let one : o.member ≡ s.member = same_item (ap (slice_get p.members) (sym same) ∙ o.here) s.seen.here in
          let z : Some Internal ≡ Some Input = sym e ∙ ap (λ (m : MemberCode). (table_component m).kind_of a) one ∙ taken in
          cc

      go : (k : Option Kind) → (table_component o.member).kind_of a ≡ k → is_local k ≡ true → HasEntry i Output a
      go None e l = absurd (cc)
      go (Some Input) e l = absurd (cc)
      go (Some Output) e l = entry_in i o.member Output a o.here e
      go (Some Internal) e l =
          let none : (table_component s.member).kind_of a ≡ None =
          (sound.compatible i j (table_component o.member) (table_component s.member) a (apart e) (image_at table_component p.members i o.member o.here)
          (image_at table_component p.members j s.member s.seen.here)).0 e in
          let z : Some Input ≡ None = sym taken ∙ none in
          absurd (cc)

  -- an action of an entry's name that its component has is in the entry
  own_entry : (i : ℕ) (m : MemberCode) (e : EntryCode) (k : Kind) (a : Act) → IsSeen i m e → a.name ≡ e.name → HasEntry i k a → is_in p.types a e ≡ true
  own_entry i m e k a s named h =
      let one : h.member ≡ m = same_item h.seen.here s.here in
      let parts = and_parts (bytes_eq h.entry.name a.name) (all_take p.types h.entry.positions a.vals) h.has in
      let alike : e.name ≡ h.entry.name = sym named ∙ sym (same_names h.entry.name a.name parts.0) in
      let same : h.entry ≡ e = same_entry i m e h.entry s (subst (λ n. IsSeen i n h.entry) one h.seen) alike in
      subst (λ f. is_in p.types a f ≡ true) same h.has

  -- ---- outputs

  seen_of : (i : ℕ) (k : Kind) (e : EntryCode) (s : IsEntryAt p i k e) → IsSeen i s.member e
  seen_of i k e s = record { here = s.here; place = s.place; among = s.among }

  taken_passes : (i j : ℕ) (e : EntryCode) → IsEntryAt p i Output e → Contains (takers p e) j → Passes p i e.name j
  taken_passes i j e s c =
      let seen = seen_of i Output e s in
      let st = stands (takers p e) j c in
      let number = is_number (has_of p.types Input e) 0 p.members st.place j st.here in
      let same : number.place ≡ j = omega (arith, number.is) in
      let here : slice_get p.members j ≡ Some number.item = ap (slice_get p.members) (sym same) ∙ number.here in
      let shared = has_shared Input e j number.item (domains i s.member e seen) here number.true_of in
      let a = shared.both.action in
      record {
        action = a;
        named = shared.both.named;
        owned = owned_by i s.member a s.here (kind_by i s.member e a seen shared.both.first ∙ ap (λ (k : Kind). Some k) s.is_kind);
        taken = kind_here j number.item a here ∙ kind_by j number.item shared.entry a shared.seen shared.both.second ∙ ap (λ (k : Kind). Some k) shared.is_kind;
      }

  passes_taken : (i j : ℕ) (e : EntryCode) → IsEntryAt p i Output e → Passes p i e.name j → Contains (takers p e) j
  passes_taken i j e s q =
      let a = q.action in
      let mine = own_entry i s.member e Output a (seen_of i Output e s) q.named (output_owner i j a q.owned q.taken) in
      let theirs = entry_has j Input a q.taken in
      let from_zero : 0 + j ≡ j = omega arith in
      contained (takers p e) j
      (subst (Stands (takers p e)) from_zero (stands_so (has_of p.types Input e) 0 p.members j theirs.member theirs.seen.here (shared_has Input e j a mine theirs)))

  -- ---- inputs

  given_passes : (j : ℕ) (e : EntryCode) → IsEntryAt p j Input e → is_given p e ≡ true → (i : ℕ) × Passes p i e.name j
  given_passes j e s h =
      let seen = seen_of j Input e s in
      let some = some_at (has_of p.types Output e) p.members h in
      let shared = has_shared Output e some.1 some.0 (domains j s.member e seen) some.2 some.3 in
      let a = shared.both.action in (
        some.1,
        record {
          action = a;
          named = shared.both.named;
          owned = owned_by some.1 some.0 a some.2 (kind_by some.1 some.0 shared.entry a shared.seen shared.both.second ∙ ap (λ (k : Kind). Some k) shared.is_kind);
          taken = kind_here j s.member a s.here ∙ kind_by j s.member e a seen shared.both.first ∙ ap (λ (k : Kind). Some k) s.is_kind;
        },
      )

  passes_given : (j : ℕ) (e : EntryCode) → IsEntryAt p j Input e → (i : ℕ) × Passes p i e.name j → is_given p e ≡ true
  passes_given j e s (i, q) =
      let a = q.action in
      let mine = own_entry j s.member e Input a (seen_of j Input e s) q.named (entry_has j Input a q.taken) in
      let theirs = output_owner i j a q.owned q.taken in
      any_of (has_of p.types Output e) p.members i theirs.member theirs.seen.here (shared_has Output e i a mine theirs)

pub takers_take : TakersTake
takers_take p i j e sound s = (taken_passes p sound i j e s, passes_taken p sound i j e s)

pub given_are_passed : GivenArePassed
given_are_passed p j e sound s = (given_passes p sound j e s, passes_given p sound j e s)
