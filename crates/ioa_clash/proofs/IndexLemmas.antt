-- What stands under each name: what one item more adds, and what stands there of the entries of components.
use Rattle.std.proofs.Common.{◌≡◌, ℕ, zero, suc, ◌<◌, ◌≤◌, ◌+◌, Bool, true, false, cond, List, [], ◌∷◌, ◌++◌, length, get_or, drop, append_assoc, Some, refl, sym, ap, ◌∙◌, arith, slice_get, ◌⊎◌, inl, inr}
use Rattle.std.specs.Str.{bytes_eq}
use Rattle.std.proofs.lemmas.List.{append-nil, drop_all}
use Rattle.ioa_value.specs.Actions.{Name}
use Rattle.ioa_value.proofs.ItemLemmas.{drop_item, get_append}
use Rattle.ioa_clash.specs.declared.index.Index.{Index}
use Rattle.ioa_clash.specs.Index.{under, HasNothing, Adds, named_among, named_in, AddsAll, IsIndexOf}

-- an item of a list behind another one
behind : {X : Type 0} (xs ys : List X) (i : ℕ) (x : X) → slice_get ys i ≡ Some x → slice_get (xs ++ ys) (length xs + i) ≡ Some x
behind [] ys i x e = let n : zero + i ≡ i = omega arith in ap (slice_get ys) n ∙ e
behind (z ∷ zs) ys i x e = let n : suc (length zs) + i ≡ suc (length zs + i) = omega arith in ap (slice_get (z ∷ (zs ++ ys))) n ∙ behind zs ys i x e

module _ {E P : Type 0} (name : E → Name) (item : ℕ → ℕ → E → P) where
  -- ---- one entry more

  -- with the items of the entries from the k-th on, all stands as it is to
  abbrev pub LeavesFrom : Index P → (Name → List P) → ℕ → ℕ → List E → Type 0
  LeavesFrom index all c k es = (x : Name) → under index x ++ named_among name item c k (drop k es) x ≡ all x

  pub one-more : (old new : Index P) (all : Name → List P) (c k : ℕ) (es : List E) (e : E) (n : Name) (p : P) → k < length es → e ≡ get_or es k e
      → n ≡ name e → p ≡ item c k e → Adds old n p new → LeavesFrom old all c k es → LeavesFrom new all c (k + 1) es
  one-more old new all c k es e n p less is named made added h x = go (bytes_eq (name e) x) refl
    where
      rest : List P
      rest = named_among name item c (k + 1) (drop (k + 1) es) x

      split : named_among name item c k (drop k es) x ≡ cond (bytes_eq (name e) x) (item c k e ∷ rest) rest
      split = ap (λ us. named_among name item c k us x) (drop_item es k e less is)

      adds : under new x ≡ cond (bytes_eq (name e) x) (under old x ++ item c k e ∷ []) (under old x)
      adds = added x ∙ ap (λ m. cond (bytes_eq m x) (under old x ++ p ∷ []) (under old x)) named
          ∙ ap (λ q. cond (bytes_eq (name e) x) (under old x ++ q ∷ []) (under old x)) made

      go : (b : Bool) → bytes_eq (name e) x ≡ b → under new x ++ rest ≡ all x
      go true q =
          let more : under new x ≡ under old x ++ item c k e ∷ [] = adds ∙ ap (λ b. cond b (under old x ++ item c k e ∷ []) (under old x)) q in
          let first : named_among name item c k (drop k es) x ≡ item c k e ∷ rest = split ∙ ap (λ b. cond b (item c k e ∷ rest) rest) q in
          ap (λ ps. ps ++ rest) more ∙ append_assoc (under old x) (item c k e ∷ []) rest ∙ ap (λ ps. under old x ++ ps) (sym first) ∙ h x
      go false q =
          let kept : under new x ≡ under old x = adds ∙ ap (λ b. cond b (under old x ++ item c k e ∷ []) (under old x)) q in
          let none : named_among name item c k (drop k es) x ≡ rest = split ∙ ap (λ b. cond b (item c k e ∷ rest) rest) q in
          ap (λ ps. ps ++ rest) kept ∙ ap (λ ps. under old x ++ ps) (sym none) ∙ h x

  pub all-added : (new : Index P) (all : Name → List P) (c k : ℕ) (es : List E) → length es ≤ k → LeavesFrom new all c k es → (x : Name) → under new x ≡ all x
  all-added new all c k es more h x =
      sym (append-nil (under new x)) ∙ ap (λ us. under new x ++ named_among name item c k us x) (sym (drop_all k es more)) ∙ h x

  -- ---- one component more

  -- with the items of the components from the c-th on, there are those of all
  abbrev pub LeavesIn : Index P → ℕ → List (List E) → Type 0
  LeavesIn index c ess = (x : Name) → under index x ++ named_in name item c (drop c ess) x ≡ named_in name item 0 ess x

  pub none-yet : (index : Index P) (ess : List (List E)) → HasNothing index → LeavesIn index 0 ess
  none-yet index ess h x = ap (λ ps. ps ++ named_in name item 0 ess x) (h x)

  pub next : (old new : Index P) (c : ℕ) (ess : List (List E)) (es : List E) → c < length ess → es ≡ get_or ess c es
      → AddsAll name item old c es new → LeavesIn old c ess → LeavesIn new (c + 1) ess
  next old new c ess es less is adds h x =
      ap (λ ps. ps ++ named_in name item (c + 1) (drop (c + 1) ess) x) (adds x)
      ∙ append_assoc (under old x) (named_among name item c 0 es x) (named_in name item (c + 1) (drop (c + 1) ess) x)
      ∙ ap (λ us. under old x ++ named_in name item c us x) (sym (drop_item ess c es less is)) ∙ h x

  pub all-indexed : (index : Index P) (c : ℕ) (ess : List (List E)) → length ess ≤ c → LeavesIn index c ess → IsIndexOf name item index ess
  all-indexed index c ess more h x =
      sym (append-nil (under index x)) ∙ ap (λ us. under index x ++ named_in name item c us x) (sym (drop_all c ess more)) ∙ h x

  -- ---- what stands there

  -- the item is of an entry of this name, which stands in this place
  pub record IsOf (c : ℕ) (ess : List (List E)) (x : Name) (p : P) : Type 0 where
    pub component : ℕ
    pub entry : ℕ
    pub list : List E
    pub holder : E
    pub here : slice_get ess component ≡ Some list
    pub there : slice_get list entry ≡ Some holder
    pub named : bytes_eq (name holder) x ≡ true
    pub is : p ≡ item (c + component) entry holder

  abbrev OneOf : ℕ → ℕ → List E → Name → P → Type 0
  OneOf c k es x p = (j : ℕ) × (e : E) × (slice_get es j ≡ Some e) × (bytes_eq (name e) x ≡ true) × (p ≡ item c (k + j) e)

  of-one : (c k : ℕ) (es : List E) (x : Name) (i : ℕ) (p : P) → slice_get (named_among name item c k es x) i ≡ Some p → OneOf c k es x p
  of-one c k [] x i p h = absurd (cc)
  of-one c k (e ∷ es) x i p h = go (bytes_eq (name e) x) refl i h (λ j. of-one c (k + 1) es x j p)
    where
      rest : List P
      rest = named_among name item c (k + 1) es x

      later : OneOf c (k + 1) es x p → OneOf c k (e ∷ es) x p
      later r = let n : (k + 1) + r.0 ≡ k + suc r.0 = omega arith in (suc r.0, r.1, r.2, r.3, r.4 ∙ ap (λ m. item c m r.1) n)

      go : (b : Bool) → bytes_eq (name e) x ≡ b → (i : ℕ) → slice_get (cond b (item c k e ∷ rest) rest) i ≡ Some p
          → ((j : ℕ) → slice_get rest j ≡ Some p → OneOf c (k + 1) es x p) → OneOf c k (e ∷ es) x p
      go true q zero h r = let same : item c k e ≡ p = cc in let n : k ≡ k + zero = omega arith in (zero, e, refl, q, sym same ∙ ap (λ m. item c m e) n)
      go true q (suc i) h r = later (r i h)
      go false q i h r = later (r i h)

  of-list : {X : Type 0} (xs ys : List X) (i : ℕ) (x : X) → slice_get (xs ++ ys) i ≡ Some x → (slice_get xs i ≡ Some x) ⊎ ((j : ℕ) × (slice_get ys j ≡ Some x))
  of-list [] ys i x e = inr (i, e)
  of-list (z ∷ zs) ys zero x e = inl e
  of-list (z ∷ zs) ys (suc i) x e = of-list zs ys i x e

  pub is-of : (c : ℕ) (ess : List (List E)) (x : Name) (i : ℕ) (p : P) → slice_get (named_in name item c ess x) i ≡ Some p → IsOf c ess x p
  is-of c [] x i p h = absurd (cc)
  is-of c (es ∷ ess) x i p h = elim (of-list (named_among name item c 0 es x) (named_in name item (c + 1) ess x) i p h) [
    | inl first ↦
        let r = of-one c 0 es x i p first in
        let n : c ≡ c + zero = omega arith in
        let k : 0 + r.0 ≡ r.0 = omega arith in
        record { component = zero; entry = r.0; list = es; holder = r.1; here = refl; there = r.2; named = r.3; is = r.4 ∙ ap (λ m. item c m r.1) k ∙ ap (λ m. item m r.0 r.1) n }
    | inr late ↦
        let r = is-of (c + 1) ess x late.0 p late.1 in
        let n : (c + 1) + r.component ≡ c + suc r.component = omega arith in
        record { component = suc r.component; entry = r.entry; list = r.list; holder = r.holder; here = r.here; there = r.there; named = r.named; is = r.is ∙ ap (λ m. item m r.entry r.holder) n }
  ]

  stands-among : (c k : ℕ) (es : List E) (x : Name) (j : ℕ) (e : E) → slice_get es j ≡ Some e → bytes_eq (name e) x ≡ true
      → (i : ℕ) × (slice_get (named_among name item c k es x) i ≡ Some (item c (k + j) e))
  stands-among c k [] x j e h q = absurd (cc)
  stands-among c k (d ∷ es) x zero e h q =
      let same : d ≡ e = cc in
      let n : k ≡ k + zero = omega arith in
      let first : named_among name item c k (d ∷ es) x ≡ item c k d ∷ named_among name item c (k + 1) es x
      = ap (λ b. cond b (item c k d ∷ named_among name item c (k + 1) es x) (named_among name item c (k + 1) es x)) (ap (λ u. bytes_eq (name u) x) same ∙ q) in
      (zero, ap (λ ps. slice_get ps zero) first ∙ ap (λ u. Some (item c k u)) same ∙ ap (λ m. Some (item c m e)) n)
  stands-among c k (d ∷ es) x (suc j) e h q = go (bytes_eq (name d) x) (stands-among c (k + 1) es x j e h q)
    where
      rest : List P
      rest = named_among name item c (k + 1) es x

      go : (b : Bool) → (i : ℕ) × (slice_get rest i ≡ Some (item c ((k + 1) + j) e))
          → (i : ℕ) × (slice_get (cond b (item c k d ∷ rest) rest) i ≡ Some (item c (k + suc j) e))
      go true r = let n : (k + 1) + j ≡ k + suc j = omega arith in (suc r.0, r.1 ∙ ap (λ m. Some (item c m e)) n)
      go false r = let n : (k + 1) + j ≡ k + suc j = omega arith in (r.0, r.1 ∙ ap (λ m. Some (item c m e)) n)

  pub stands-in : (c : ℕ) (ess : List (List E)) (x : Name) (d j : ℕ) (es : List E) (e : E) → slice_get ess d ≡ Some es → slice_get es j ≡ Some e
      → bytes_eq (name e) x ≡ true → (i : ℕ) × (slice_get (named_in name item c ess x) i ≡ Some (item (c + d) j e))
  stands-in c [] x d j es e h g q = absurd (cc)
  stands-in c (fs ∷ ess) x zero j es e h g q =
      let same : fs ≡ es = cc in
      let r = stands-among c 0 fs x j e (ap (λ us. slice_get us j) same ∙ g) q in
      let n : c ≡ c + zero = omega arith in
      let k : 0 + j ≡ j = omega arith in
      (r.0, get_append (named_among name item c 0 fs x) (named_in name item (c + 1) ess x) r.0 (item c (0 + j) e) r.1 ∙ ap (λ m. Some (item c m e)) k ∙ ap (λ m. Some (item m j e)) n)
  stands-in c (fs ∷ ess) x (suc d) j es e h g q =
      let r = stands-in (c + 1) ess x d j es e h g q in
      let n : (c + 1) + d ≡ c + suc d = omega arith in
      let xs : List P = named_among name item c 0 fs x in
      (length xs + r.0, behind xs (named_in name item (c + 1) ess x) r.0 (item ((c + 1) + d) j e) r.1 ∙ ap (λ m. Some (item m j e)) n)
