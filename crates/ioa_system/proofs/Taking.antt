-- The entries of an action's name of which the action is one: whose they are, and which of them is its owner's.
use Rattle.std.proofs.Common.{◌≡◌, ℕ, zero, suc, ◌+◌, ◌≤◌, List, [], ◌∷◌, ◌++◌, length, drop, map, filter, find, All, append_assoc, Bool, true, false, cond, not, ◌&&◌, Option, None, Some, refl, sym, ◌∙◌, ap, subst, arith}
use Rattle.std.specs.Prelude.{slice_get}
use Rattle.std.specs.List.{list_any}
use Rattle.std.specs.Option.{option_map, option_map_or}
use Rattle.std.specs.Str.{bytes_eq}
use Rattle.std.proofs.lemmas.Bool.{and_from}
use Rattle.std.proofs.lemmas.List.{append-nil, drop_all, map-append}
use Rattle.std.proofs.lemmas.List.Elements.{All-append, All-head, All-tail, filter-append}
use Rattle.std.proofs.lemmas.Slice.Eq.{bytes_eq-Decides}
use Rattle.ioa_value.proofs.ItemLemmas.{get_map}
use Rattle.ioa_value.specs.Actions.{Name, Act}
use Rattle.ioa_value.specs.Plain.{Val}
use Rattle.ioa_value.specs.Positions.{all_take}
use Rattle.ioa_value.specs.Table.{Table, contains}
use Rattle.ioa_tree.specs.declared.tree.Kind.{Kind}
use Rattle.ioa_tree.specs.declared.tree.Kind.TheVariants.{Input, Output, Internal}
use Rattle.ioa_tree.specs.Components.{Component, has, owns, is_local, is_output}
use Rattle.ioa_tree.specs.Runs.{is_external}
use Rattle.ioa_tree.specs.Steps.{participants_from, participants, owner_from, owner}
use Rattle.ioa_clash.specs.Index.{named_among, named_in}
use Rattle.ioa_clash.proofs.IndexLemmas.{is-of}
use Rattle.ioa_sites.specs.declared.sites.Site.{Site}
use Rattle.ioa_compile.specs.Programs.{EntryCode, MemberCode, Prog}
use Rattle.ioa_compile.specs.Shown.{entry_code}
use Rattle.ioa_compile.specs.Sites.{code_name, entry_lists, site_of, sites_of}
use Rattle.ioa_compile.specs.Tables.{AreMembers, IsMember, IsProgram, entry_of, table_component, tabled}
use Rattle.ioa_compile.proofs.Sited.{Passes, none, one, passing, find-one}
use Rattle.ioa_system.specs.declared.participation.Participant.{Participant}
use Rattle.ioa_system.specs.Found.{member_of, components_of, numbers_of, HaveEntries, AreParticipants, IsSite, IsTaker, first_local, is_local_at, owner_site, takes_at}
use Rattle.ioa_system.proofs.Finding.{tables, has_found, has_none, owns_found, no_item, one_item}
use Rattle.ioa_system.proofs.Participating.{Stands, stands_first, stands_rest, takes, participates, stays, owns_none}

abbrev numbers_at : List Site → List ℕ
numbers_at ss = map (λ (s : Site). s.component) ss

-- ---- what stands in a site

pub takes_there : (ms : List MemberCode) (a : Act) (s : Site) (m : MemberCode) (e : EntryCode) → slice_get ms s.component ≡ Some m → slice_get m.entries s.entry ≡ Some e
    → takes_at ms a s ≡ all_take m.start.table e.positions a.vals
takes_there ms a s m e here there =
    ap (λ o. option_map_or (λ (n : MemberCode). option_map_or (λ (d : EntryCode). all_take n.start.table d.positions a.vals) (slice_get n.entries s.entry) false) o false) here
    ∙ ap (λ o. option_map_or (λ (d : EntryCode). all_take m.start.table d.positions a.vals) o false) there

pub local_there : (ms : List MemberCode) (s : Site) (m : MemberCode) (e : EntryCode) → slice_get ms s.component ≡ Some m → slice_get m.entries s.entry ≡ Some e
    → is_local_at ms s ≡ is_local (Some e.kind)
local_there ms s m e here there =
    ap (λ o. option_map_or (λ (n : MemberCode). option_map_or (λ (d : EntryCode). is_local (Some d.kind)) (slice_get n.entries s.entry) false) o false) here
    ∙ ap (λ o. option_map_or (λ (d : EntryCode). is_local (Some d.kind)) o false) there

module _ (ms : List MemberCode) (hidden : List Name) (a : Act) where
  -- of a component's entries at most one has the action
  abbrev Here : ℕ → MemberCode → Type 0
  Here i m = Passes code_name (site_of hidden) (λ e. all_take m.start.table e.positions a.vals) a.name i 0 m.entries
      (filter (takes_at ms a) (named_among code_name (site_of hidden) i 0 m.entries a.name))

  here : (i : ℕ) (m : MemberCode) (types : Table) → slice_get ms i ≡ Some m → IsMember types m → Here i m
  here i m types at sound =
      passing code_name (site_of hidden) (λ e. all_take m.start.table e.positions a.vals) a.name (takes_at ms a) i 0 m.entries
      (λ j e there. takes_there ms a (site_of hidden i (0 + j) e) m e at (let n : j ≡ 0 + j = omega arith in ap (slice_get m.entries) (sym n) ∙ there))
      sound.names

  abbrev Found : ℕ → List MemberCode → List Site
  Found i ns = filter (takes_at ms a) (named_in code_name (site_of hidden) i (entry_lists ns) a.name)

  -- a component that does not have the action has no site, and one that has it has one
  data First (i : ℕ) (m : MemberCode) (ns : List MemberCode) : Type 0 where
    skips : entry_of m a ≡ None → Found i (m ∷ ns) ≡ Found (i + 1) ns → First i m ns
    takes_one : (j : ℕ) (e : EntryCode) → slice_get m.entries j ≡ Some e → e.name ≡ a.name → entry_of m a ≡ Some e
        → Found i (m ∷ ns) ≡ site_of hidden i j e ∷ Found (i + 1) ns → First i m ns

  first : (i : ℕ) (m : MemberCode) (ns : List MemberCode) (types : Table) → slice_get ms i ≡ Some m → IsMember types m → First i m ns
  first i m ns types at sound = go (here i m types at sound)
    where
      those : List Site
      those = named_among code_name (site_of hidden) i 0 m.entries a.name

      others : List Site
      others = named_in code_name (site_of hidden) (i + 1) (entry_lists ns) a.name

      split : Found i (m ∷ ns) ≡ filter (takes_at ms a) those ++ Found (i + 1) ns
      split = filter-append (takes_at ms a) those others

      go : Here i m → First i m ns
      go (none f l) = skips f (split ∙ ap (λ v. v ++ Found (i + 1) ns) l)
      go (one j e there named f l) =
          let n : 0 + j ≡ j = omega arith in
          takes_one j e there ((bytes_eq-Decides e.name a.name).0 named) f
          (split ∙ ap (λ v. v ++ Found (i + 1) ns) (l ∙ ap (λ k. site_of hidden i k e ∷ []) n))

  -- ---- whose they are

  numbers_from : (types : Table) (i : ℕ) (ns : List MemberCode) → Stands ms i ns → AreMembers types ns → numbers_at (Found i ns) ≡ participants_from i (tables ns) a
  numbers_from types i [] at sound = refl
  numbers_from types i (m ∷ ns) at sound =
      let rest = numbers_from types (i + 1) ns (stands_rest ms i m ns at) sound.1 in
      let more : List ℕ = participants_from (i + 1) (tables ns) a in
      elim (first i m ns types (stands_first ms i m ns at) sound.0) [
        | skips f l ↦ ap numbers_at l ∙ rest ∙ sym (ap (λ b. cond b (i ∷ more) more) (has_none m a f))
        | takes_one j e there named f l ↦ ap numbers_at l ∙ ap (λ v. i ∷ v) rest ∙ sym (ap (λ b. cond b (i ∷ more) more) (has_found m a e f))
      ]

  abbrev number_at : Option Site → Option ℕ
  number_at o = option_map (λ (s : Site). s.component) o

  owner_by : (b c : Bool) (s : Site) (o : Option Site) (r : Option ℕ) → b ≡ c → number_at o ≡ r → number_at (cond b (Some s) o) ≡ cond c (Some s.component) r
  owner_by true true s o r e h = refl
  owner_by true false s o r e h = absurd (cc)
  owner_by false true s o r e h = absurd (cc)
  owner_by false false s o r e h = h

  owner_at : (types : Table) (i : ℕ) (ns : List MemberCode) → Stands ms i ns → AreMembers types ns
      → number_at (find (is_local_at ms) (Found i ns)) ≡ owner_from i (tables ns) a
  owner_at types i [] at sound = refl
  owner_at types i (m ∷ ns) at sound =
      let rest = owner_at types (i + 1) ns (stands_rest ms i m ns at) sound.1 in
      let more : Option ℕ = owner_from (i + 1) (tables ns) a in
      let here = stands_first ms i m ns at in
      elim (first i m ns types here sound.0) [
        | skips f l ↦ ap (λ v. number_at (find (is_local_at ms) v)) l ∙ rest
            ∙ sym (ap (λ b. cond b (Some i) more) (owns_none (table_component m) a (has_none m a f)))
        | takes_one j e there named f l ↦ ap (λ v. number_at (find (is_local_at ms) v)) l
            ∙ owner_by (is_local_at ms (site_of hidden i j e)) (owns a (table_component m)) (site_of hidden i j e) (find (is_local_at ms) (Found (i + 1) ns)) more
            (local_there ms (site_of hidden i j e) m e here there ∙ sym (owns_found m a e f)) rest
      ]

  -- ---- whether the owner's is seen

  abbrev shown_at : Option Site → Bool
  shown_at o = option_map_or (λ (s : Site). s.shown) o true

  external_by : (b c d x : Bool) (s : Site) (o : Option Site) (r : Bool) → b ≡ c → s.shown ≡ (d && x) → shown_at o ≡ r → shown_at (cond b (Some s) o) ≡ cond c (cond d x false) r
  external_by true true true x s o r e f h = f
  external_by true true false x s o r e f h = f
  external_by true false d x s o r e f h = absurd (cc)
  external_by false true d x s o r e f h = absurd (cc)
  external_by false false d x s o r e f h = h

  kind_found : (m : MemberCode) (e : EntryCode) → entry_of m a ≡ Some e → is_output ((table_component m).kind_of a) ≡ is_output (Some e.kind)
  kind_found m e h = rw h refl

  external_at : (types : Table) (i : ℕ) (ns : List MemberCode) → Stands ms i ns → AreMembers types ns
      → shown_at (find (is_local_at ms) (Found i ns)) ≡ is_external hidden (tables ns) a
  external_at types i [] at sound = refl
  external_at types i (m ∷ ns) at sound =
      let rest = external_at types (i + 1) ns (stands_rest ms i m ns at) sound.1 in
      let more : Bool = is_external hidden (tables ns) a in
      let out : Bool = is_output ((table_component m).kind_of a) in
      let seen : Bool = not (list_any (λ (h : Name). bytes_eq h a.name) hidden) in
      let here = stands_first ms i m ns at in
      elim (first i m ns types here sound.0) [
        | skips f l ↦ ap (λ v. shown_at (find (is_local_at ms) v)) l ∙ rest
            ∙ sym (ap (λ b. cond b (cond out seen false) more) (owns_none (table_component m) a (has_none m a f)))
        | takes_one j e there named f l ↦ ap (λ v. shown_at (find (is_local_at ms) v)) l
            ∙ external_by (is_local_at ms (site_of hidden i j e)) (owns a (table_component m)) out seen (site_of hidden i j e) (find (is_local_at ms) (Found (i + 1) ns)) more
            (local_there ms (site_of hidden i j e) m e here there ∙ sym (owns_found m a e f))
            (ap (λ b. b && not (contains hidden e.name)) (sym (kind_found m e f)) ∙ ap (λ (n : Name). out && not (contains hidden n)) named) rest
      ]

all_stand : (ms : List MemberCode) → Stands ms 0 ms
all_stand ms j = let n : 0 + j ≡ j = omega arith in ap (slice_get ms) n

pub owner_told : (p : Prog) (a : Act) → IsProgram p → option_map (λ (s : Site). s.component) (owner_site p a) ≡ owner (tabled p) a
owner_told p a sound = owner_at p.members p.hidden a p.types 0 p.members (all_stand p.members) sound.members

pub external_told : (p : Prog) (a : Act) → IsProgram p → option_map_or (λ (s : Site). s.shown) (owner_site p a) true ≡ is_external p.hidden (tabled p) a
external_told p a sound = external_at p.members p.hidden a p.types 0 p.members (all_stand p.members) sound.members

-- ---- the entries in the sites

-- the member that stands at a place is sound
member_at : (types : Table) (ms : List MemberCode) (i : ℕ) (m : MemberCode) → AreMembers types ms → slice_get ms i ≡ Some m → IsMember types m
member_at types [] i m sound h = absurd (cc)
member_at types (n ∷ ms) zero m sound h = let same : n ≡ m = cc in subst (IsMember types) same sound.0
member_at types (n ∷ ms) (suc i) m sound h = member_at types ms i m sound.1 h

pub record StandsAt (p : Prog) (x : Name) (s : Site) : Type 0 where
  pub member : MemberCode
  pub entry : EntryCode
  pub here : slice_get p.members s.component ≡ Some member
  pub there : slice_get member.entries s.entry ≡ Some entry
  pub named : bytes_eq entry.name x ≡ true

pub site_stands : (p : Prog) (x : Name) (k : ℕ) (s : Site) → slice_get (sites_of p x) k ≡ Some s → StandsAt p x s
site_stands p x k s h =
    let f = is-of code_name (site_of p.hidden) 0 (entry_lists p.members) x k s h in
    let m = get_map (λ (n : MemberCode). n.entries) p.members f.component f.list f.here in
    let first : 0 + f.component ≡ f.component = omega arith in
    let at : f.component ≡ s.component = sym first ∙ sym (ap (λ (t : Site). t.component) f.is) in
    let on : f.entry ≡ s.entry = sym (ap (λ (t : Site). t.entry) f.is) in
    record {
      member = m.0;
      entry = f.holder;
      here = ap (slice_get p.members) (sym at) ∙ m.1;
      there = ap (slice_get m.0.entries) (sym on) ∙ ap (λ es. slice_get es f.entry) m.2 ∙ f.there;
      named = f.named;
    }

pub is_site : (p : Prog) (x : Name) (k : ℕ) (s : Site) → slice_get (sites_of p x) k ≡ Some s → IsSite p.members s
is_site p x k s h = let f = site_stands p x k s h in (f.member, f.here, (f.entry, f.there))

-- the participant of a site has the action by its entry
same_some : {X : Type 0} {x y : X} {o : Option X} → o ≡ Some x → o ≡ Some y → x ≡ y
same_some {x = x} {y = y} e f = let q : Some x ≡ Some y = sym e ∙ f in cc

pub taker_has : (p : Prog) (a : Act) (k : ℕ) (s : Site) (q : Participant) → IsProgram p → slice_get (sites_of p a.name) k ≡ Some s
    → IsTaker p.members a s q → entry_of (member_of q) a ≡ Some (entry_code q.entry.now)
taker_has p a k s q sound at taker =
    let f = site_stands p a.name k s at in
    let member : f.member ≡ member_of q = same_some f.here taker.here in
    let entry : f.entry ≡ entry_code q.entry.now = same_some (ap (λ (m : MemberCode). slice_get m.entries s.entry) (sym member) ∙ f.there) taker.there in
    let named : bytes_eq (entry_code q.entry.now).name a.name ≡ true = ap (λ (e : EntryCode). bytes_eq e.name a.name) (sym entry) ∙ f.named in
    let m : MemberCode = member_of q in
    find-one code_name (site_of p.hidden) (λ e. all_take m.start.table e.positions a.vals) a.name m.entries s.entry (entry_code q.entry.now)
    (member_at p.types p.members s.component m sound.members taker.here).names taker.there
    (and_from (bytes_eq (entry_code q.entry.now).name a.name) (all_take m.start.table (entry_code q.entry.now).positions a.vals) named taker.takes)

-- ---- what is found up to the k-th site

pub record Finds (p : Prog) (a : Act) (qs : List Participant) (k : ℕ) : Type 0 where
  pub numbers : numbers_of qs ++ numbers_at (filter (takes_at p.members a) (drop k (sites_of p a.name))) ≡ participants (tabled p) a
  pub members : All (λ q. slice_get p.members q.component ≡ Some (member_of q)) qs
  pub entries : HaveEntries a qs
  pub places : All (λ q. q.place ≡ q.component) qs

pub finds_begin : (p : Prog) (a : Act) → IsProgram p → Finds p a [] 0
finds_begin p a sound = record {
  numbers = numbers_from p.members p.hidden a p.types 0 p.members (all_stand p.members) sound.members;
  members = no_item (λ q. slice_get p.members q.component ≡ Some (member_of q));
  entries = no_item (λ q. entry_of (member_of q) a ≡ Some (entry_code q.entry.now));
  places = no_item (λ q. q.place ≡ q.component);
}

pub finds_more : (p : Prog) (a : Act) (qs : List Participant) (k : ℕ) (s : Site) (q : Participant) → IsProgram p → Finds p a qs k
    → slice_get (sites_of p a.name) k ≡ Some s → drop k (sites_of p a.name) ≡ s ∷ drop (k + 1) (sites_of p a.name) → IsTaker p.members a s q
    → Finds p a (qs ++ q ∷ []) (k + 1)
finds_more p a qs k s q sound f at next taker =
    let rest : List Site = filter (takes_at p.members a) (drop (k + 1) (sites_of p a.name)) in
    let passes : takes_at p.members a s ≡ true = takes_there p.members a s (member_of q) (entry_code q.entry.now) taker.here taker.there ∙ taker.takes in
    let found : filter (takes_at p.members a) (drop k (sites_of p a.name)) ≡ s ∷ rest = ap (filter (takes_at p.members a)) next ∙ ap (λ b. cond b (s ∷ rest) rest) passes in
    let has = taker_has p a k s q sound at taker in
    let here : slice_get p.members q.component ≡ Some (member_of q) = ap (slice_get p.members) taker.component ∙ taker.here in
    record {
      numbers = rw (map-append (λ (r : Participant). r.component) qs (q ∷ []), append_assoc, taker.component) (ap (λ v. numbers_of qs ++ numbers_at v) (sym found) ∙ f.numbers);
      members = All-append (λ r. slice_get p.members r.component ≡ Some (member_of r)) qs (q ∷ []) f.members (one_item (λ r. slice_get p.members r.component ≡ Some (member_of r)) q here);
      entries = All-append (λ r. entry_of (member_of r) a ≡ Some (entry_code r.entry.now)) qs (q ∷ []) f.entries (one_item (λ r. entry_of (member_of r) a ≡ Some (entry_code r.entry.now)) q has);
      places = All-append (λ r. r.place ≡ r.component) qs (q ∷ []) f.places (one_item (λ r. r.place ≡ r.component) q (taker.place ∙ sym taker.component));
    }

pub finds_none : (p : Prog) (a : Act) (qs : List Participant) (k : ℕ) (s : Site) → Finds p a qs k
    → drop k (sites_of p a.name) ≡ s ∷ drop (k + 1) (sites_of p a.name) → takes_at p.members a s ≡ false → Finds p a qs (k + 1)
finds_none p a qs k s f next fails =
    let rest : List Site = filter (takes_at p.members a) (drop (k + 1) (sites_of p a.name)) in
    let found : filter (takes_at p.members a) (drop k (sites_of p a.name)) ≡ rest = ap (filter (takes_at p.members a)) next ∙ ap (λ b. cond b (s ∷ rest) rest) fails in
    record {
      numbers = ap (λ v. numbers_of qs ++ numbers_at v) (sym found) ∙ f.numbers;
      members = f.members;
      entries = f.entries;
      places = f.places;
    }

-- the numbers tell the components
first_by : (a : Act) (ms : List MemberCode) (i : ℕ) (m : MemberCode) (ps : List (Component (List Val))) (qs : List Participant) → slice_get ms i ≡ Some m
    → numbers_of qs ≡ i ∷ participants_from (i + 1) ps a → All (λ q. slice_get ms q.component ≡ Some (member_of q)) qs
    → ((rs : List Participant) → numbers_of rs ≡ participants_from (i + 1) ps a → All (λ q. slice_get ms q.component ≡ Some (member_of q)) rs → components_of rs ≡ filter (has a) ps)
    → components_of qs ≡ table_component m ∷ filter (has a) ps
first_by a ms i m ps [] at e h rest = absurd (cc)
first_by a ms i m ps (q ∷ rs) at e h rest =
    let number : q.component ≡ i = cc in
    let more : numbers_of rs ≡ participants_from (i + 1) ps a = cc in
    let here : slice_get ms q.component ≡ Some (member_of q) = All-head (λ (r : Participant). slice_get ms r.component ≡ Some (member_of r)) q rs h in
    let member : m ≡ member_of q = same_some (ap (slice_get ms) number ∙ at) here in
    ap (λ (n : MemberCode). table_component n ∷ components_of rs) (sym member)
    ∙ ap (λ ds. table_component m ∷ ds) (rest rs more (All-tail (λ (r : Participant). slice_get ms r.component ≡ Some (member_of r)) q rs h))

components_by : (a : Act) (ms : List MemberCode) (i : ℕ) (ns : List MemberCode) (qs : List Participant) → Stands ms i ns
    → numbers_of qs ≡ participants_from i (tables ns) a → All (λ q. slice_get ms q.component ≡ Some (member_of q)) qs
    → components_of qs ≡ filter (has a) (tables ns)
components_by a ms i [] [] at e h = refl
components_by a ms i [] (q ∷ qs) at e h = absurd (cc)
components_by a ms i (m ∷ ns) qs at e h =
    let rest = λ (rs : List Participant). components_by a ms (i + 1) ns rs (stands_rest ms i m ns at) in
    elim (takes a (table_component m) i (tables ns)) [
      | participates g n f ↦ first_by a ms i m (tables ns) qs (stands_first ms i m ns at) (e ∙ n) h rest ∙ sym f
      | stays g n f ↦ rest qs (e ∙ n) h ∙ sym f
    ]

pub finds_end : (p : Prog) (a : Act) (qs : List Participant) (k : ℕ) → Finds p a qs k → length (sites_of p a.name) ≤ k → AreParticipants a p.members qs
finds_end p a qs k f l =
    let d : drop k (sites_of p a.name) ≡ [] = drop_all k (sites_of p a.name) l in
    let n : numbers_at (filter (takes_at p.members a) (drop k (sites_of p a.name))) ≡ [] = rw d refl in
    let numbers : numbers_of qs ≡ participants (tabled p) a = sym (append-nil (numbers_of qs)) ∙ ap (λ v. numbers_of qs ++ v) (sym n) ∙ f.numbers in
    record {
      components = components_by a p.members 0 p.members qs (all_stand p.members) numbers f.members;
      numbers = numbers;
      members = f.members;
      entries = f.entries;
      places = f.places;
    }

-- ---- the owner up to the k-th site

abbrev pub or_else : Option Site → Option Site → Option Site
or_else (Some s) o = Some s
or_else None o = o

abbrev pub OwnedSo : Prog → Act → Option Site → ℕ → Type 0
OwnedSo p a o k = or_else o (find (is_local_at p.members) (filter (takes_at p.members a) (drop k (sites_of p a.name)))) ≡ owner_site p a

owned_by : (k : Kind) (s : Site) (o rest all : Option Site) → or_else o (cond (is_local (Some k)) (Some s) rest) ≡ all → or_else (first_local o k s) rest ≡ all
owned_by k s (Some t) rest all h = h
owned_by Input s None rest all h = h
owned_by Output s None rest all h = h
owned_by Internal s None rest all h = h

pub owned_more : (p : Prog) (a : Act) (o : Option Site) (k : ℕ) (s : Site) (q : Participant) → OwnedSo p a o k
    → drop k (sites_of p a.name) ≡ s ∷ drop (k + 1) (sites_of p a.name) → IsTaker p.members a s q → OwnedSo p a (first_local o (entry_code q.entry.now).kind s) (k + 1)
owned_more p a o k s q h next taker =
    let rest : List Site = filter (takes_at p.members a) (drop (k + 1) (sites_of p a.name)) in
    let passes : takes_at p.members a s ≡ true = takes_there p.members a s (member_of q) (entry_code q.entry.now) taker.here taker.there ∙ taker.takes in
    let found : filter (takes_at p.members a) (drop k (sites_of p a.name)) ≡ s ∷ rest = ap (filter (takes_at p.members a)) next ∙ ap (λ b. cond b (s ∷ rest) rest) passes in
    let own : is_local_at p.members s ≡ is_local (Some (entry_code q.entry.now).kind) = local_there p.members s (member_of q) (entry_code q.entry.now) taker.here taker.there in
    owned_by (entry_code q.entry.now).kind s o (find (is_local_at p.members) rest) (owner_site p a)
    (ap (λ b. or_else o (cond b (Some s) (find (is_local_at p.members) rest))) (sym own) ∙ ap (λ v. or_else o (find (is_local_at p.members) v)) (sym found) ∙ h)

pub owned_none : (p : Prog) (a : Act) (o : Option Site) (k : ℕ) (s : Site) → OwnedSo p a o k
    → drop k (sites_of p a.name) ≡ s ∷ drop (k + 1) (sites_of p a.name) → takes_at p.members a s ≡ false → OwnedSo p a o (k + 1)
owned_none p a o k s h next fails =
    let rest : List Site = filter (takes_at p.members a) (drop (k + 1) (sites_of p a.name)) in
    let found : filter (takes_at p.members a) (drop k (sites_of p a.name)) ≡ rest = ap (filter (takes_at p.members a)) next ∙ ap (λ b. cond b (s ∷ rest) rest) fails in
    ap (λ v. or_else o (find (is_local_at p.members) v)) (sym found) ∙ h

or_none : (o : Option Site) → or_else o None ≡ o
or_none (Some s) = refl
or_none None = refl

pub owned_end : (p : Prog) (a : Act) (o : Option Site) (k : ℕ) → OwnedSo p a o k → length (sites_of p a.name) ≤ k → o ≡ owner_site p a
owned_end p a o k h l =
    let d : drop k (sites_of p a.name) ≡ [] = drop_all k (sites_of p a.name) l in
    sym (or_none o) ∙ ap (λ v. or_else o (find (is_local_at p.members) (filter (takes_at p.members a) v))) (sym d) ∙ h
