-- A search for the first clash of a signature with later ones.
use Rattle.std.proofs.Common.{◌≡◌, ℕ, ◌<◌, ◌≤◌, ◌+◌, ◌&&◌, Bool, true, false, not, List, [], ◌∷◌, length, take, Some, refl, sym, ap, subst, ◌∙◌, arith, slice_get, ◌⊎◌, inl, inr, zero, suc}
use Rattle.std.specs.List.{list_all}
use Rattle.std.specs.Str.{bytes_eq}
use Rattle.std.proofs.lemmas.Bool.{and_from, and_parts, both_ways, not-true, cases_lt}
use Rattle.std.proofs.lemmas.Slice.Eq.{bytes_eq-Decides}
use Rattle.std.proofs.lemmas.Option.{slice_get_within}
use Rattle.ioa_value.specs.Positions.{all_meet}
use Rattle.ioa_value.proofs.ItemLemmas.{all_at}
use Rattle.ioa_value.specs.Table.{Table}
use Rattle.ioa_value.specs.Actions.{Name}
use Rattle.ioa_clash.specs.declared.index.Index.{Index}
use Rattle.ioa_clash.specs.declared.places.Place.{Place}
use Rattle.ioa_clash.specs.Clashes.{SignedEntry, kinds_clash, clash, clear_of, IsClearAt, HitsAt, IsFirstHit, IsHit, IsClearUpTo, IsClearTill}
use Rattle.ioa_clash.specs.Index.{under, entry_name, place_of, IsAt, IsIndexOf}
use Rattle.ioa_clash.proofs.IndexLemmas.{is-of, stands-in}
use Rattle.ioa_clash.proofs.ZipLemmas.{same-item}

all-from : {X : Type 0} (p : X → Bool) (xs : List X) → ((k : ℕ) (x : X) → slice_get xs k ≡ Some x → p x ≡ true) → list_all p xs ≡ true
all-from p [] h = refl
all-from p (x ∷ xs) h = and_from _ _ (h zero x refl) (all-from p xs (λ k y e. h (suc k) y e))

-- a test that the items before one pass, and this one too
pub one-more : {X : Type 0} (p : X → Bool) (xs : List X) (i : ℕ) (x : X) → slice_get xs i ≡ Some x → list_all p (take i xs) ≡ true → p x ≡ true → list_all p (take (i + 1) xs) ≡ true
one-more {X = X} p xs i x e h k = subst (λ n. list_all p (take n xs) ≡ true) (let q : suc i ≡ i + 1 = omega arith in q) (go xs i e h)
  where
    go : (ys : List X) (j : ℕ) → slice_get ys j ≡ Some x → list_all p (take j ys) ≡ true → list_all p (take (suc j) ys) ≡ true
    go [] j e h = absurd (cc)
    go (y ∷ ys) zero e h = let q : y ≡ x = cc in and_from _ _ (subst (λ z. p z ≡ true) (sym q) k) refl
    go (y ∷ ys) (suc j) e h = let r = and_parts (p y) (list_all p (take j ys)) h in and_from _ _ r.0 (go ys j e r.1)

module _ (types : Table) (ss : List (List SignedEntry)) where
  -- what holds of the first clash with the entries in the places before the k-th
  pub record IsHitAmong (e : SignedEntry) (start end : ℕ) (places : List Place) (k first : ℕ) : Type 0 where
    pub within : first ≤ end
    pub clear : (i : ℕ) (p : Place) (f : SignedEntry) → i < k → slice_get places i ≡ Some p → IsAt ss p f → start ≤ p.component → p.component < first
        → clash types e f ≡ false
    pub hit : first < end → (start ≤ first) × HitsAt types ss e first

  hit-on : (e f : SignedEntry) (fs : List SignedEntry) (k : ℕ) → slice_get fs k ≡ Some f → clash types e f ≡ true → clear_of types e fs ≡ false
  hit-on e f fs k at h = go (clear_of types e fs) refl
    where
      go : (b : Bool) → clear_of types e fs ≡ b → clear_of types e fs ≡ false
      go false q = q
      go true q = absurd (both_ways (clash types e f) (not-true (clash types e f) (all_at (λ g. not (clash types e g)) fs k f q at)) h)

  -- one entry stands in a place
  pub one-entry : (p q : Place) (f g : SignedEntry) → p ≡ q → IsAt ss p f → IsAt ss q g → f ≡ g
  one-entry p q f g place at on =
      let list : at.0 ≡ on.0 = same-item at.1 (ap (λ r. slice_get ss r.component) place ∙ on.1) in
      same-item at.2 (ap (λ us. slice_get us p.entry) list ∙ ap (λ r. slice_get on.0 r.entry) place ∙ on.2)

  -- an entry stands in each place of an index
  pub held-there : (index : Index Place) (x : Name) (places : List Place) (k : ℕ) (p : Place) → IsIndexOf entry_name place_of index ss → places ≡ under index x
      → slice_get places k ≡ Some p → (e : SignedEntry) × IsAt ss p e
  held-there index x places k p of is here =
      let f = is-of entry_name place_of 0 ss x k p (ap (λ ps. slice_get ps k) (sym (is ∙ of x)) ∙ here) in
      let first : 0 + f.component ≡ f.component = omega arith in
      let place : p ≡ place_of f.component f.entry f.holder = f.is ∙ ap (λ i. place_of i f.entry f.holder) first in
      (f.holder, subst (λ q. IsAt ss q f.holder) (sym place) (f.list, f.here, f.there))

  module _ (e : SignedEntry) (start end k first : ℕ) (places : List Place) (p : Place) (here : slice_get places k ≡ Some p)
      (h : IsHitAmong e start end places k first) where
    clear-too : (last : ℕ) → last ≤ first → ((f : SignedEntry) → IsAt ss p f → start ≤ p.component → p.component < last → clash types e f ≡ false)
        → (i : ℕ) (q : Place) (g : SignedEntry) → i < k + 1 → slice_get places i ≡ Some q → IsAt ss q g
        → start ≤ q.component → q.component < last → clash types e g ≡ false
    clear-too last less this i q g within there on from till = split (cases_lt i k)
      where
        split : (i < k) ⊎ (k ≤ i) → clash types e g ≡ false
        split (inl before) = h.clear i q g before there on from (omega arith)
        split (inr above) =
            let index : i ≡ k = omega arith in
            let place : q ≡ p = same-item there (ap (slice_get places) index ∙ here) in
            let component = ap (λ r. r.component) place in
            this g (subst (λ r. IsAt ss r g) place on) (omega arith) (omega arith)

    pub hit-more : (last : ℕ) (f : SignedEntry) → last ≡ p.component → IsAt ss p f → start ≤ p.component → p.component < first
        → clash types e f ≡ true → IsHitAmong e start end places (k + 1) last
    hit-more last f is at from till on = subst (λ n. IsHitAmong e start end places (k + 1) n) (sym is) (let within = h.within in record {
      within = omega arith;
      clear = clear-too p.component (omega arith) (λ g there a b. absurd (omega (arith, b)));
      hit = λ less. (from, (at.0, at.1, hit-on e f at.0 p.entry at.2 on));
    })

    pub hit-same : (last : ℕ) → last ≡ first → ((f : SignedEntry) → IsAt ss p f → start ≤ p.component → p.component < first → clash types e f ≡ false)
        → IsHitAmong e start end places (k + 1) last
    hit-same last is this = subst (λ n. IsHitAmong e start end places (k + 1) n) (sym is)
        (record { within = h.within; clear = clear-too first (omega arith) this; hit = h.hit })

  -- entries of other names do not clash
  pub hit-first : (index : Index Place) (e : SignedEntry) (start end k first : ℕ) (places : List Place) → IsIndexOf entry_name place_of index ss
      → places ≡ under index e.name → length places ≤ k
      → IsHitAmong e start end places k first → IsFirstHit types ss e start end first
  hit-first index e start end k first places of is all h = record {
    within = h.within;
    clear = λ j from till fs at. all-from (λ f. not (clash types e f)) fs (λ l f there. clear j l fs f from till at there (clash types e f) refl);
    hit = h.hit;
  }
    where
      clear : (j l : ℕ) (fs : List SignedEntry) (f : SignedEntry) → start ≤ j → j < first → slice_get ss j ≡ Some fs → slice_get fs l ≡ Some f
          → (b : Bool) → clash types e f ≡ b → not (clash types e f) ≡ true
      clear j l fs f from till at there false q = ap not q
      clear j l fs f from till at there true q =
          let parts = and_parts (bytes_eq e.name f.name && all_meet types e.domains f.domains) (kinds_clash e.kind f.kind) q in
          let name = (bytes_eq-Decides e.name f.name).0 (and_parts (bytes_eq e.name f.name) (all_meet types e.domains f.domains) parts.0).0 in
          let p : Place = record { component = j; entry = l } in
          let found = stands-in entry_name place_of 0 ss e.name j l fs f at there ((bytes_eq-Decides f.name e.name).1 (sym name)) in
          let first : 0 + j ≡ j = omega arith in
          let among : slice_get places found.0 ≡ Some p = ap (λ ps. slice_get ps found.0) (is ∙ of e.name) ∙ found.1 ∙ ap (λ i. Some (place_of i l f)) first in
          let within = slice_get_within places found.0 p among in
          absurd (both_ways (clash types e f) (h.clear found.0 p f (omega arith) among (fs, at, there) from till) q)

  -- what holds of the first clash after the first entries
  pub record IsBest (count i k end first : ℕ) : Type 0 where
    pub within : end ≤ count
    pub clear : IsClearUpTo types ss i k end
    pub hit : end < count → IsHit types ss i end first

  module _ (count i k end first place : ℕ) (es : List SignedEntry) (e : SignedEntry) (at : slice_get ss i ≡ Some es) (there : slice_get es k ≡ Some e)
      (best : IsBest count i k end first)
      (found : IsFirstHit types ss e (i + 1) end place) where
    clear-up : (last : ℕ) → last ≤ end → last ≤ place → IsClearUpTo types ss i (k + 1) last
    clear-up last most less fs l d j here before among later till = split (cases_lt l k)
      where
        split : (l < k) ⊎ (k ≤ l) → IsClearAt types ss d j
        split (inl below) = best.clear fs l d j here below among later (omega arith)
        split (inr above) =
            let same : l ≡ k = omega arith in
            let one : Some es ≡ Some fs = sym at ∙ here in
            let list : es ≡ fs = cc in
            let two : Some e ≡ Some d = sym there ∙ ap (λ gs. slice_get gs k) list ∙ ap (slice_get fs) (sym same) ∙ among in
            let entry : e ≡ d = cc in
            subst (λ x. IsClearAt types ss x j) entry (found.clear j (omega arith) (omega arith))

    -- an entry that clashes earlier is better, and another is not
    pub better : (last best_entry : ℕ) → last ≡ place → best_entry ≡ k → place < end → IsBest count i (k + 1) last best_entry
    better last entry p q less =
        let within = best.within in
        subst (λ n. IsBest count i (k + 1) last n) (sym q)
        (subst (λ n. IsBest count i (k + 1) n k) (sym p) (record {
          within = omega arith;
          clear = clear-up place (omega arith) (omega arith);
          hit = λ some.
              let h = found.hit less in
              let later = h.0 in
              record {
                later = omega arith;
                signature = es;
                here = at;
                entry = e;
                among = there;
                hit = h.1;
                earlier = λ l d before among. best.clear es l d place at before among (omega arith) less;
              };
        }))

    pub no-better : (last entry : ℕ) → last ≡ end → entry ≡ first → end ≤ place → IsBest count i (k + 1) last entry
    no-better last entry p q more =
        subst (λ n. IsBest count i (k + 1) last n) (sym q)
        (subst (λ n. IsBest count i (k + 1) n first) (sym p) (record { within = best.within; clear = clear-up end (omega arith) more; hit = best.hit }))

  -- all entries are clear
  pub till-from : (i k end : ℕ) (es : List SignedEntry) → slice_get ss i ≡ Some es → length es ≤ k → IsClearUpTo types ss i k end → IsClearTill types ss i end
  till-from i k end es at all h = λ fs gs j here there later till.
      let one : Some es ≡ Some fs = sym at ∙ here in
      let list : es ≡ fs = cc in
      all-from (λ e. clear_of types e gs) fs (λ l e among.
      let within = slice_get_within fs l e among in
      let size = ap length list in
      h fs l e j here (omega arith) among later till gs there)
