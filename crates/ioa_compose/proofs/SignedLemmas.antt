-- Instances clash as their signatures do.
use Rattle.std.proofs.Common.{◌≡◌, ℕ, ◌<◌, ◌&&◌, Bool, true, false, cond, List, [], ◌∷◌, map, find, Some, Vec, Global, refl, sym, ap, subst, ◌∙◌, slice_get, zero, suc, All}
use Rattle.std.specs.List.{AllZip, list_all}
use Rattle.std.specs.Option.{option_map}
use Rattle.std.specs.Str.{bytes_eq}
use Rattle.std.proofs.lemmas.Bool.{and_parts}
use Rattle.std.proofs.lemmas.List.Elements.{All-nil, All-cons, All-head, All-tail}
use Rattle.ioa_value.specs.Actions.{Name, Act}
use Rattle.ioa_value.specs.Plain.{plain}
use Rattle.ioa_value.specs.Positions.{Domain, all_take, IsDomain}
use Rattle.ioa_value.specs.Table.{Table, AreTypes}
use Rattle.ioa_value.proofs.ItemLemmas.{get_map, image_at}
use Rattle.ioa_tree.specs.Tree.{EntryTree, AutomatonTree}
use Rattle.ioa_tree.specs.Components.{Compatible}
use Rattle.ioa_tree.specs.Instances.{Instance, Fit, entry_has, component_of}
use Rattle.ioa_tree.specs.View.{automaton_of}
use Rattle.ioa_tree.specs.Hosts.{crash_fine}
use Rattle.ioa_tree.specs.WellFormed.{position_fine, formals, distinct, automaton_fine}
use Rattle.ioa_tree.proofs.Domains.{domains_have, domains_are}
use Rattle.ioa_tree.proofs.FineParts.{fine_parts}
use Rattle.ioa_compose.specs.declared.binding.Binding.{Binding}
use Rattle.ioa_clash.specs.declared.clashes.Clash.{Clash}
use Rattle.ioa_clash.specs.declared.clashes.SignedEntry as lent
use Rattle.ioa_compose.specs.Bindings.{crash_in, plain_in, instance_in, IsStartable, AllSound, AllStartable, AllApart, IsOwn, AllOwn, HasPositions, AllPositioned}
use Rattle.ioa_clash.specs.Clashes.{AreClashing, SignedEntry, signature_of, signed_has, signed_component, signed_components, IsSignature, IsFirstClash}
use Rattle.ioa_compose.specs.Signatures.{domains_in, ArePositionsOf, IsSigned, IsSignatureOf, signed_entries, signature_in}
use Rattle.ioa_compose.specs.Refusals.{NoneClash, IsFirstEntry, ClashesIn, clashing}
use Rattle.ioa_clash.proofs.ClashLemmas.{place-once}
use Rattle.ioa_clash.proofs.CompatibleLemmas.{HaveSameKinds, compatible-like, first-like, clashing-like, between}
use Rattle.ioa_compose.proofs.CompatibleLemmas.{none-from}
use Rattle.ioa_compose.proofs.WithSignals.{positions_fine, PositionsFine, more_formals, more_names, more_positions, all_signed, own_entries}
use Rattle.ioa_clash.proofs.ZipLemmas.{zip-at, zip-to, same-item}

-- an instance over these types: entries of different names, with fine positions, and arguments of the formals' types
record IsKnown (types : Table) (m : Instance) : Type 0 where
  over : m.types ≡ types
  names : distinct (map (λ e. e.name) m.automaton.entries) ≡ true
  positions : PositionsFine m.types m.automaton
  fit : Fit m.types m.automaton.formals m.arguments

-- the entry's positions are fine
abbrev fine-in : Instance → EntryTree → Bool
fine-in m e = list_all (position_fine m.types (formals m.types m.types [] m.automaton)) e.positions

-- entries with their positions are told so
signed-each : (i : Instance) (es : List EntryTree) (dss : List (List Domain)) → ArePositionsOf i es dss → AllZip (IsSigned i) es (signed_entries es dss)
signed-each i [] [] h = tt
signed-each i [] (ds ∷ dss) h = absurd h
signed-each i (e ∷ es) [] h = absurd h
signed-each i (e ∷ es) (ds ∷ dss) h = (record { kind = refl; name = refl; domains = h.0 }, signed-each i es dss h.1)

-- so are those of a component's own automaton
signed-own : (types : Table) (b : Binding) → IsOwn b → HasPositions types b → IsSignatureOf (instance_in types b) (signature_in b)
signed-own types b own h =
    let a = automaton_of b.automaton.now in
    let es = (automaton_of b.own).entries in
    let dss = map domains_in b.positions.items in
    subst (λ us. AllZip (IsSigned (instance_in types b)) us (signature_in b)) (ap (λ (t : AutomatonTree). t.entries) own ∙ own_entries (crash_in b) a)
    (signed-each (instance_in types b) es dss (all_signed types (crash_in b) a (map plain b.arguments.items) es dss h))

all-signed : (types : Table) (bs : List Binding) → AllOwn bs → AllPositioned types bs → AllZip IsSignatureOf (map (instance_in types) bs) (map signature_in bs)
all-signed types [] own h = tt
all-signed types (b ∷ bs) own h = (
  signed-own types b (All-head IsOwn b bs own) (All-head (HasPositions types) b bs h),
  all-signed types bs (All-tail IsOwn b bs own) (All-tail (HasPositions types) b bs h),
)

-- what is lent is what is held
pub signed-lent : (types : Table) (bs : List Binding) (vs us : List (Vec lent.SignedEntry Global)) → us ≡ vs → map signature_of vs ≡ map signature_in bs
    → AllOwn bs → AllPositioned types bs → AllZip IsSignatureOf (map (instance_in types) bs) (map signature_of us)
signed-lent types bs vs us p q own h =
    subst (AllZip IsSignatureOf (map (instance_in types) bs)) (sym (ap (map signature_of) p ∙ q)) (all-signed types bs own h)

module _ (types : Table) where
  signed-has : (m : Instance) (e : EntryTree) (s : SignedEntry) (act : Act) → m.types ≡ types → IsSigned m e s → entry_has m act e ≡ signed_has types act s
  signed-has m e s act over h =
      ap (λ b. bytes_eq e.name act.name && b) (domains_have m e.positions s.domains act.vals h.domains ∙ ap (λ ts. all_take ts s.domains act.vals) over)
      ∙ ap (λ x. bytes_eq x act.name && all_take types s.domains act.vals) (sym h.name)

  -- an instance's actions have the kinds that its signature tells
  same-kinds : (m : Instance) (es : List SignedEntry) → m.types ≡ types → IsSignatureOf m es → HaveSameKinds (signed_component types es) (component_of m)
  same-kinds m es over z act = go m.automaton.entries es z
    where
      either : (a b : Bool) (e : EntryTree) (s : SignedEntry) (ds : List EntryTree) (ts : List SignedEntry) → a ≡ b → s.kind ≡ e.kind
          → option_map (λ d. d.kind) (find (signed_has types act) ts) ≡ option_map (λ d. d.kind) (find (entry_has m act) ds)
          → option_map (λ d. d.kind) (cond a (Some s) (find (signed_has types act) ts)) ≡ option_map (λ d. d.kind) (cond b (Some e) (find (entry_has m act) ds))
      either a true e s ds ts h k later = ap (λ c. option_map (λ (d : SignedEntry). d.kind) (cond c (Some s) (find (signed_has types act) ts))) h ∙ ap (λ x. Some x) k
      either a false e s ds ts h k later = ap (λ c. option_map (λ (d : SignedEntry). d.kind) (cond c (Some s) (find (signed_has types act) ts))) h ∙ later

      go : (ds : List EntryTree) (ts : List SignedEntry) → AllZip (IsSigned m) ds ts
          → option_map (λ d. d.kind) (find (signed_has types act) ts) ≡ option_map (λ d. d.kind) (find (entry_has m act) ds)
      go [] [] h = refl
      go [] (t ∷ ts) h = absurd h
      go (d ∷ ds) [] h = absurd h
      go (d ∷ ds) (t ∷ ts) h =
          either (signed_has types act t) (entry_has m act d) d t ds ts (sym (signed-has m d t act over h.0)) h.0.kind (go ds ts h.1)

  -- its signature is one
  is-signature : AreTypes types → (m : Instance) (es : List SignedEntry) → IsKnown types m → IsSignatureOf m es → IsSignature types es
  is-signature declared m es k z = record {
    names = subst (λ ns. distinct ns ≡ true) (names m.automaton.entries es z) k.names;
    positions = places m.automaton.entries es z k.positions;
  }
    where
      names : (ds : List EntryTree) (ts : List SignedEntry) → AllZip (IsSigned m) ds ts → map (λ d. d.name) ds ≡ map (λ t. t.name) ts
      names [] [] h = refl
      names [] (t ∷ ts) h = absurd h
      names (d ∷ ds) [] h = absurd h
      names (d ∷ ds) (t ∷ ts) h = ap (λ x. x ∷ map (λ (e : EntryTree). e.name) ds) (sym h.0.name) ∙ ap (λ ns. t.name ∷ ns) (names ds ts h.1)

      places : (ds : List EntryTree) (ts : List SignedEntry) → AllZip (IsSigned m) ds ts → list_all (fine-in m) ds ≡ true → All (λ e. All (IsDomain types) e.domains) ts
      places [] [] h f = All-nil (λ (e : SignedEntry). All (IsDomain types) e.domains)
      places [] (t ∷ ts) h f = absurd h
      places (d ∷ ds) [] h f = absurd h
      places (d ∷ ds) (t ∷ ts) h f =
          let fs = and_parts (fine-in m d) (list_all (fine-in m) ds) f in
          All-cons (λ (e : SignedEntry). All (IsDomain types) e.domains) t ts
          (subst (λ us. All (IsDomain us) t.domains) k.over
          (domains_are m (subst AreTypes (sym k.over) declared) k.fit d.positions t.domains fs.0 h.0.domains))
          (places ds ts h.1 fs.1)

  -- ---- instances in order

  one-known : (b : Binding) → ((g : List Name) × (automaton_fine types types g (automaton_of b.automaton.now) ≡ true)) → IsStartable (plain_in types b)
      → crash_fine (crash_in b) (automaton_of b.automaton.now) ≡ true → IsKnown types (instance_in types b)
  one-known b s t p =
      let a = automaton_of b.automaton.now in
      let parts = fine_parts types types s.0 a s.1 in
      record {
        over = refl;
        names = more_names (crash_in b) a p parts.entry_names;
        positions = more_positions types (crash_in b) a (positions_fine types s.0 a s.1);
        fit = subst (λ fs. Fit types fs (map plain b.arguments.items)) (sym (more_formals (crash_in b) a)) t.fit;
      }

  known-at : (bs : List Binding) (k : ℕ) (m : Instance) → AllSound (map (plain_in types) bs) → AllStartable (map (plain_in types) bs) → AllApart bs
      → slice_get (map (instance_in types) bs) k ≡ Some m → IsKnown types m
  known-at [] k m s t p h = absurd (cc)
  known-at (b ∷ bs) zero m s t p h =
      let q : instance_in types b ≡ m = cc in
      subst (IsKnown types) q (one-known b s.0 t.0 (All-head (λ (c : Binding). crash_fine (crash_in c) (automaton_of c.automaton.now) ≡ true) b bs p))
  known-at (b ∷ bs) (suc k) m s t p h = known-at bs k m s.1 t.1 (All-tail (λ (c : Binding). crash_fine (crash_in c) (automaton_of c.automaton.now) ≡ true) b bs p) h

  pub all-signatures : AreTypes types → (bs : List Binding) (ss : List (List SignedEntry)) → AllZip IsSignatureOf (map (instance_in types) bs) ss
      → AllSound (map (plain_in types) bs) → AllStartable (map (plain_in types) bs) → AllApart bs → All (IsSignature types) ss
  all-signatures declared [] [] z s t p = All-nil (IsSignature types)
  all-signatures declared [] (es ∷ ss) z s t p = absurd z
  all-signatures declared (b ∷ bs) [] z s t p = absurd z
  all-signatures declared (b ∷ bs) (es ∷ ss) z s t p =
      let here = All-head (λ (c : Binding). crash_fine (crash_in c) (automaton_of c.automaton.now) ≡ true) b bs p in
      let later = All-tail (λ (c : Binding). crash_fine (crash_in c) (automaton_of c.automaton.now) ≡ true) b bs p in
      All-cons (IsSignature types) es ss (is-signature declared (instance_in types b) es (one-known b s.0 t.0 here) z.0)
      (all-signatures declared bs ss z.1 s.1 t.1 later)

  all-same : (bs : List Binding) (ss : List (List SignedEntry)) → AllZip IsSignatureOf (map (instance_in types) bs) ss
      → AllZip HaveSameKinds (signed_components types ss) (map component_of (map (instance_in types) bs))
  all-same [] [] z = tt
  all-same [] (es ∷ ss) z = absurd z
  all-same (b ∷ bs) [] z = absurd z
  all-same (b ∷ bs) (es ∷ ss) z = (same-kinds (instance_in types b) es refl z.0, all-same bs ss z.1)

  -- signatures that are compatible are those of instances of which no two clash
  pub none-clash-by : (bs : List Binding) (ss : List (List SignedEntry)) → AllZip IsSignatureOf (map (instance_in types) bs) ss
      → Compatible (signed_components types ss) → NoneClash (map (instance_in types) bs)
  none-clash-by bs ss z k =
      none-from (map (instance_in types) bs) (compatible-like (signed_components types ss) (map component_of (map (instance_in types) bs)) (all-same bs ss z) k)

  -- the first ones to clash are the first instances, on the first one's first entry
  module _ (bs : List Binding) (ss : List (List SignedEntry)) (z : AllZip IsSignatureOf (map (instance_in types) bs) ss)
      (s : AllSound (map (plain_in types) bs)) (t : AllStartable (map (plain_in types) bs)) (p : AllApart bs) where
    pub clashes-by : (c : Clash) (x : Name) (h : IsFirstClash types ss c) → x ≡ h.entry.name → ClashesIn (map (instance_in types) bs) (clashing c.first c.second x)
    clashes-by c x h named =
        let ns = map (instance_in types) bs in
        let f = first-like (signed_components types ss) (map component_of ns) c.first c.second h.entry.name (all-same bs ss z) h.first in
        let a = get_map component_of ns c.first f.first f.here in
        let b = get_map component_of ns c.second f.second f.there in
        let on = between h.entry.name f.first f.second (component_of a.0) (component_of b.0) a.2 b.2 f.clash in (
          a.0,
          b.0,
          f.later,
          a.1,
          b.1,
          subst (λ y. AreClashing y (component_of a.0) (component_of b.0)) (sym named) on,
          (λ k l m n y before e g. f.none_before k l (component_of m) (component_of n) y before (image_at component_of ns k m e) (image_at component_of ns l n g)),
          first-of a.0 b.0 a.1 b.1,
        )
      where
        first-of : (m n : Instance) → slice_get (map (instance_in types) bs) c.first ≡ Some m → slice_get (map (instance_in types) bs) c.second ≡ Some n → IsFirstEntry x m n
        first-of m n at on = λ k l e d here called less below clash.
            let known = known-at bs c.first m s t p at in
            let mine = zip-at IsSignatureOf (map (instance_in types) bs) ss c.first m z at in
            let theirs = zip-at IsSignatureOf (map (instance_in types) bs) ss c.second n z on in
            let same = same-item mine.1 h.here in
            let signed = subst (IsSignatureOf m) same mine.2 in
            let e0 = zip-to (IsSigned m) m.automaton.entries h.signature c.entry h.entry signed h.among in
            let name_of = λ (y : EntryTree). y.name in
            let place = place-once (map name_of m.automaton.entries) k c.entry e.name known.names (image_at name_of m.automaton.entries k e here)
            (image_at name_of m.automaton.entries c.entry e0.0 e0.1 ∙ ap (λ y. Some y) (sym e0.2.name ∙ sym named ∙ sym called)) in
            let d0 = zip-at (IsSigned m) m.automaton.entries h.signature l d signed below in
            h.earlier l d0.0 theirs.0 (subst (λ y. l < y) place less) d0.1 theirs.1
            (subst (λ y. AreClashing y (signed_component types h.signature) (signed_component types theirs.0)) (sym d0.2.name)
            (clashing-like d.name (component_of m) (component_of n) (signed_component types h.signature) (signed_component types theirs.0)
            (λ act. sym (same-kinds m h.signature known.over signed act))
            (λ act. sym (same-kinds n theirs.0 (known-at bs c.second n s t p on).over theirs.2 act)) clash))
