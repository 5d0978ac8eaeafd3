-- Signatures that are clear of one another do not clash, and others do.
use Rattle.std.proofs.Common.{◌≡◌, ℕ, ◌<◌, ◌&&◌, Bool, true, false, not, cond, List, [], ◌∷◌, length, map, find, Option, Some, None, refl, sym, ap, subst, ◌∙◌, arith, slice_get, ◌⊎◌, inl, inr, zero, suc, All, Vec, Global}
use Rattle.std.specs.Str.{bytes_eq}
use Rattle.std.specs.Option.{option_map, IfSome}
use Rattle.std.proofs.lemmas.Bool.{and_parts, and_from, or_left, or_right, not-true, not-false, both_ways}
use Rattle.std.proofs.lemmas.Option.{slice_get_within}
use Rattle.std.proofs.lemmas.Slice.Eq.{bytes_eq-Decides}
use Rattle.ioa_value.specs.Actions.{Name, Act}
use Rattle.ioa_value.specs.Positions.{all_take, all_meet, IsDomain}
use Rattle.ioa_value.specs.Table.{Table, AreTypes, contains, distinct}
use Rattle.ioa_value.proofs.ItemLemmas.{find_at, all_at, fails_at, get_map, image_at}
use Rattle.ioa_value.proofs.NameLemmas.{first_there}
use Rattle.ioa_value.proofs.PositionLemmas.{all_take-meet, all_meet-some}
use Rattle.ioa_tree.specs.declared.tree.Kind.{Kind}
use Rattle.ioa_tree.specs.declared.tree.Kind.TheVariants.{Input, Output, Internal}
use Rattle.ioa_tree.specs.Components.{Component, Compatible}
use Rattle.ioa_clash.specs.declared.clashes.Clash.{Clash}
use Rattle.ioa_clash.specs.declared.clashes.SignedEntry as lent
use Rattle.ioa_clash.specs.Clashes.{AreClashing, Before, SignedEntry, signature_of, signed_has, signed_component, signed_components, IsSignature, IsFirstClash, kinds_clash, clash, clear_of, clear, IsHit, IsClearTill}
use Rattle.ioa_clash.specs.Index.{IsAt}
use Rattle.ioa_clash.proofs.CompatibleLemmas.{compatible-of}
use Rattle.ioa_clash.proofs.ZipLemmas.{all_found}
use Rattle.ioa_clash.proofs.ZipLemmas.{same-item}

same-bytes : (xs ys zs : List ℕ) → bytes_eq xs zs ≡ true → bytes_eq ys zs ≡ true → bytes_eq xs ys ≡ true
same-bytes xs ys zs h g = (bytes_eq-Decides xs ys).1 ((bytes_eq-Decides xs zs).0 h ∙ sym ((bytes_eq-Decides ys zs).0 g))

-- ---- kinds

internal-right : (k : Kind) → kinds_clash k Internal ≡ true
internal-right Input = refl
internal-right Output = refl
internal-right Internal = refl

-- no action of one is internal to the other, and none is an output of both
abbrev Apart : Option Kind → Option Kind → Type 0
Apart k l = (k ≡ Some Internal → l ≡ None) × (l ≡ Some Internal → k ≡ None) × (k ≡ Some Output → l ≡ Some Output → ⊥)

kinds-apart : (k l : Kind) → kinds_clash k l ≡ false → Apart (Some k) (Some l)
kinds-apart k l h = (
  (λ e. let q : k ≡ Internal = cc in absurd (both_ways (kinds_clash k l) h (ap (λ x. kinds_clash x l) q))),
  (λ e. let q : l ≡ Internal = cc in absurd (both_ways (kinds_clash k l) h (ap (kinds_clash k) q ∙ internal-right k))),
  (λ e g. let q : k ≡ Output = cc in let r : l ≡ Output = cc in both_ways (kinds_clash k l) h (ap (λ x. kinds_clash x l) q ∙ ap (kinds_clash Output) r)),
)

options-apart : (o p : Option SignedEntry) → ((e f : SignedEntry) → o ≡ Some e → p ≡ Some f → kinds_clash e.kind f.kind ≡ false)
    → Apart (option_map (λ e. e.kind) o) (option_map (λ e. e.kind) p)
options-apart (Some e) (Some f) h = kinds-apart e.kind f.kind (h e f refl refl)
options-apart (Some e) None h = ((λ k. refl), (λ k. absurd (cc)), (λ k l. absurd (cc)))
options-apart None (Some f) h = ((λ k. absurd (cc)), (λ k. refl), (λ k l. absurd (cc)))
options-apart None None h = ((λ k. refl), (λ k. refl), (λ k l. absurd (cc)))

kinds-clashing : (k l : Kind) (o p : Option Kind) → o ≡ Some k → p ≡ Some l → kinds_clash k l ≡ true
    → ((o ≡ Some Internal) × (p ≡ None → ⊥)) ⊎ (((p ≡ Some Internal) × (o ≡ None → ⊥)) ⊎ ((o ≡ Some Output) × (p ≡ Some Output)))
kinds-clashing Internal l o p e f h = inl (e, λ n. absurd (cc))
kinds-clashing Input Internal o p e f h = inr (inl (f, λ n. absurd (cc)))
kinds-clashing Output Internal o p e f h = inr (inl (f, λ n. absurd (cc)))
kinds-clashing Output Output o p e f h = inr (inr (e, f))
kinds-clashing Input Input o p e f h = absurd (cc)
kinds-clashing Input Output o p e f h = absurd (cc)
kinds-clashing Output Input o p e f h = absurd (cc)

-- ---- entries of different names

there : (es : List SignedEntry) (k : ℕ) (e : SignedEntry) (x : Name) → slice_get es k ≡ Some e → bytes_eq e.name x ≡ true → contains (map (λ d. d.name) es) x ≡ true
there [] k e x h g = absurd (cc)
there (d ∷ ds) zero e x h g = let q : d ≡ e = cc in or_left _ _ (ap (λ y. bytes_eq y.name x) q ∙ g)
there (d ∷ ds) (suc k) e x h g = or_right _ _ (there ds k e x h g)

-- each name stands in one place
pub place-once : (xs : List Name) (k l : ℕ) (x : Name) → distinct xs ≡ true → slice_get xs k ≡ Some x → slice_get xs l ≡ Some x → k ≡ l
place-once xs k l x d p q =
    let same : Some k ≡ Some l = sym (first_there xs k x d p) ∙ first_there xs l x d q in
    cc

module _ (types : Table) where
  -- a search by an action finds the one that has it
  find-named : (act : Act) (es : List SignedEntry) (k : ℕ) (e : SignedEntry) → distinct (map (λ d. d.name) es) ≡ true
      → slice_get es k ≡ Some e → signed_has types act e ≡ true → find (signed_has types act) es ≡ Some e
  find-named act [] k e d h g = absurd (cc)
  find-named act (x ∷ xs) zero e d h g =
      let q : x ≡ e = cc in
      ap (λ b. cond b (Some x) (find (signed_has types act) xs)) (ap (signed_has types act) q ∙ g) ∙ ap (λ y. Some y) q
  find-named act (x ∷ xs) (suc k) e d h g =
      let ds = and_parts (not (contains (map (λ d. d.name) xs) x.name)) (distinct (map (λ d. d.name) xs)) d in
      let mine = and_parts (bytes_eq e.name act.name) (all_take types e.domains act.vals) g in
      split (signed_has types act x) refl ds.0 mine.0 (find-named act xs k e ds.1 h g)
    where
      split : (b : Bool) → signed_has types act x ≡ b → not (contains (map (λ d. d.name) xs) x.name) ≡ true → bytes_eq e.name act.name ≡ true
          → find (signed_has types act) xs ≡ Some e → cond b (Some x) (find (signed_has types act) xs) ≡ Some e
      split false q n c later = later
      split true q n c later =
          let theirs = and_parts (bytes_eq x.name act.name) (all_take types x.domains act.vals) q in
          absurd (both_ways (contains (map (λ d. d.name) xs) x.name) (not-true _ n) (there xs k e x.name h (same-bytes e.name x.name act.name c theirs.0)))

  -- ---- two signatures

  abbrev Clashing : Name → List SignedEntry → List SignedEntry → Type 0
  Clashing x es fs = AreClashing x (signed_component types es) (signed_component types fs)

  -- where the entries of each action are apart there is no clash
  no-clash : (es fs : List SignedEntry) (x : Name) (c : Clashing x es fs)
      → ((e f : SignedEntry) → find (signed_has types c.0) es ≡ Some e → find (signed_has types c.0) fs ≡ Some f → kinds_clash e.kind f.kind ≡ false) → ⊥
  no-clash es fs x c h =
      let r = options-apart (find (signed_has types c.0) es) (find (signed_has types c.0) fs) h in
      elim c.2 [ inl p ↦ p.1 (r.0 p.0) | inr y ↦ elim y [ inl p ↦ p.1 (r.1 p.0) | inr p ↦ r.2 p.0 p.1 ] ]

  third : (a b c : Bool) → a ≡ true → b ≡ true → (a && b && c) ≡ false → c ≡ false
  third true true c h g k = k
  third true false c h g k = absurd (cc)
  third false b c h g k = absurd (cc)

  -- an entry that has an action, with its place
  record Found (es : List SignedEntry) (act : Act) (e : SignedEntry) : Type 0 where
    place : ℕ
    here : slice_get es place ≡ Some e
    name : bytes_eq e.name act.name ≡ true
    takes : all_take types e.domains act.vals ≡ true

  found : (es : List SignedEntry) (act : Act) (e : SignedEntry) → find (signed_has types act) es ≡ Some e → Found es act e
  found es act e h =
      let at = find_at (signed_has types act) es e h in
      let has = and_parts (bytes_eq e.name act.name) (all_take types e.domains act.vals) at.2 in
      record { place = at.0; here = at.1; name = has.0; takes = has.1 }

  -- two entries with an action in common that do not clash
  kinds-clear : (es fs : List SignedEntry) (act : Act) (e f : SignedEntry) → Found es act e → Found fs act f → clash types e f ≡ false → kinds_clash e.kind f.kind ≡ false
  kinds-clear es fs act e f p q h =
      third (bytes_eq e.name f.name) (all_meet types e.domains f.domains) (kinds_clash e.kind f.kind)
      (same-bytes e.name f.name act.name p.name q.name) (all_take-meet types e.domains f.domains act.vals p.takes q.takes) h

  none-of : (s t : SignedEntry) (fs : List SignedEntry) (k : ℕ) → clear_of types s fs ≡ true → slice_get fs k ≡ Some t → clash types s t ≡ false
  none-of s t fs k h at = not-true (clash types s t) (all_at (λ f. not (clash types s f)) fs k t h at)

  -- signatures that are clear of one another
  clear-none : (es fs : List SignedEntry) (x : Name) → clear types es fs ≡ true → Clashing x es fs → ⊥
  clear-none es fs x h c = no-clash es fs x c (λ e f i j.
      let p = found es c.0 e i in
      let q = found fs c.0 f j in
      kinds-clear es fs c.0 e f p q (none-of e f fs q.place (all_at (λ s. clear_of types s fs) es p.place e h p.here) q.here))

  -- an entry that is clear of a signature
  entry-none : (es fs : List SignedEntry) (l : ℕ) (s : SignedEntry) → distinct (map (λ e. e.name) es) ≡ true → slice_get es l ≡ Some s
      → clear_of types s fs ≡ true → Clashing s.name es fs → ⊥
  entry-none es fs l s names told h c = no-clash es fs s.name c (λ e f i j.
      let p = found es c.0 e i in
      let q = found fs c.0 f j in
      let named : e.name ≡ s.name = (bytes_eq-Decides e.name c.0.name).0 p.name ∙ c.1 in
      let mine = image_at (λ (d : SignedEntry). d.name) es p.place e p.here ∙ ap (λ y. Some y) named in
      let place = place-once (map (λ (d : SignedEntry). d.name) es) p.place l s.name names mine (image_at (λ (d : SignedEntry). d.name) es l s told) in
      let same : s ≡ e = same-item told (ap (slice_get es) (sym place) ∙ p.here) in
      kinds-clear es fs c.0 e f p q (none-of e f fs q.place (subst (λ t. clear_of types t fs ≡ true) same h) q.here))

  -- entries that clash have an action in common, on which the signatures clash
  clashing-on : AreTypes types → (es fs : List SignedEntry) (k l : ℕ) (s t : SignedEntry) → IsSignature types es → IsSignature types fs
      → slice_get es k ≡ Some s → slice_get fs l ≡ Some t → clash types s t ≡ true → Clashing s.name es fs
  clashing-on declared es fs k l s t a b at on h =
      let parts = and_parts (bytes_eq s.name t.name && all_meet types s.domains t.domains) (kinds_clash s.kind t.kind) h in
      let front = and_parts (bytes_eq s.name t.name) (all_meet types s.domains t.domains) parts.0 in
      let common = all_meet-some types s.domains t.domains declared (domains-of es k s a at) (domains-of fs l t b on) front.1 in
      let act : Act = record { name = s.name; vals = common.0 } in
      let itself : bytes_eq s.name s.name ≡ true = (bytes_eq-Decides s.name s.name).1 refl in
      let other : bytes_eq t.name s.name ≡ true = (bytes_eq-Decides t.name s.name).1 (sym ((bytes_eq-Decides s.name t.name).0 front.0)) in
      let mine = kind-of es k s act a at (and_from _ _ itself common.1) in
      let theirs = kind-of fs l t act b on (and_from _ _ other common.2) in
      (act, refl, kinds-clashing s.kind t.kind _ _ mine theirs parts.1)
    where
      domains-of : (es : List SignedEntry) (k : ℕ) (s : SignedEntry) → IsSignature types es → slice_get es k ≡ Some s → All (IsDomain types) s.domains
      domains-of es k s a at = all_found (λ (e : SignedEntry). All (IsDomain types) e.domains) es k s a.positions at

      kind-of : (es : List SignedEntry) (k : ℕ) (s : SignedEntry) (act : Act) → IsSignature types es → slice_get es k ≡ Some s
          → signed_has types act s ≡ true → (signed_component types es).kind_of act ≡ Some s.kind
      kind-of es k s act a at has = ap (option_map (λ (d : SignedEntry). d.kind)) (find-named act es k s a.names at has)

  -- ---- signatures in order

  module _ (declared : AreTypes types) (ss : List (List SignedEntry)) (signed : All (IsSignature types) ss) (count : ℕ) (size : length ss ≡ count) where
    -- a signature that is clear of the later ones before the end
    till-none : (k l end : ℕ) (p q : Component (Unit {0})) (x : Name) → IsClearTill types ss k end → k < l → l < end
        → slice_get (signed_components types ss) k ≡ Some p → slice_get (signed_components types ss) l ≡ Some q → AreClashing x p q → ⊥
    till-none k l end p q x h less within e f c =
        let a = get_map (signed_component types) ss k p e in
        let b = get_map (signed_component types) ss l q f in
        clear-none a.0 b.0 x (h a.0 b.0 l a.1 b.1 less within)
        (subst (λ u. AreClashing x u (signed_component types b.0)) (sym a.2) (subst (λ u. AreClashing x p u) (sym b.2) c))

    within-all : (l : ℕ) (q : Component (Unit {0})) → slice_get (signed_components types ss) l ≡ Some q → l < count
    within-all l q f = let b = get_map (signed_component types) ss l q f in subst (λ n. l < n) size (slice_get_within ss l b.0 b.1)

    -- all are clear
    pub none-clash : ((k : ℕ) → k < count → IsClearTill types ss k count) → Compatible (signed_components types ss)
    none-clash h = compatible-of (signed_components types ss) (λ k l p q x less e f.
        let within = within-all l q f in
        till-none k l count p q x (h k (omega arith)) less within e f)

    -- one hits another, and those before are clear
    pub clashes-first : (c : Clash) → ((k : ℕ) → k < c.first → IsClearTill types ss k count) → IsClearTill types ss c.first c.second
        → IsHit types ss c.first c.second c.entry → IsFirstClash types ss c
    clashes-first c h here hit =
        let a = all_found (IsSignature types) ss c.first hit.signature signed hit.here in
        let b = all_found (IsSignature types) ss c.second hit.hit.0 signed hit.hit.1 in
        let on = fails_at (λ f. not (clash types hit.entry f)) hit.hit.0 hit.hit.2 in
        record {
          signature = hit.signature;
          here = hit.here;
          entry = hit.entry;
          among = hit.among;
          first = record {
            later = hit.later;
            first = signed_component types hit.signature;
            second = signed_component types hit.hit.0;
            here = image_at (signed_component types) ss c.first hit.signature hit.here;
            there = image_at (signed_component types) ss c.second hit.hit.0 hit.hit.1;
            clash = clashing-on declared hit.signature hit.hit.0 c.entry on.1 hit.entry on.0 a b hit.among on.2 (not-false (clash types hit.entry on.0) on.3);
            none_before = none-before;
          };
          earlier = λ l d other less among at. entry-none hit.signature other l d a.names among (hit.earlier l d less among other at);
        }
      where
        none-before : (k l : ℕ) (p q : Component (Unit {0})) (x : Name) → Before k l c.first c.second → slice_get (signed_components types ss) k ≡ Some p
            → slice_get (signed_components types ss) l ≡ Some q → AreClashing x p q → ⊥
        none-before k l p q x before e f = elim before.1 [
          | inl less ↦ till-none k l count p q x (h k less) before.0 (within-all l q f) e f
          | inr at ↦ till-none k l c.second p q x (subst (λ y. IsClearTill types ss y c.second) (sym at.0) here) before.0 at.1 e f
        ]

-- of a search that has found them
pub found-clash : (types : Table) (ss : List (List SignedEntry)) (o : Option Clash) (c : Clash) → IfSome o (IsFirstClash types ss) → o ≡ Some c → IsFirstClash types ss c
found-clash types ss o c h e = subst (λ (u : Option Clash). IfSome u (IsFirstClash types ss)) e h

-- the entry on which they clash stands in its place
pub stands-at : (types : Table) (c : Clash) (vs us : List (Vec lent.SignedEntry Global)) → vs ≡ us → (h : IsFirstClash types (map signature_of vs) c)
    → IsAt (map signature_of us) (record { component = c.first; entry = c.entry }) h.entry
stands-at types c vs us e h = (h.signature, subst (λ (ws : List (Vec lent.SignedEntry Global)). slice_get (map signature_of ws) c.first ≡ Some h.signature) e h.here, h.among)
