-- Of the entries of one name, those of which an action is one.
use Rattle.std.proofs.Common.{◌≡◌, ℕ, zero, suc, ◌+◌, Bool, true, false, cond, not, ◌&&◌, ◌||◌, IsTrue, List, [], ◌∷◌, map, filter, Some, None, refl, sym, ap, subst, ◌∙◌, arith, slice_get}
use Rattle.std.specs.Prelude.{find}
use Rattle.std.specs.Str.{bytes_eq}
use Rattle.std.proofs.lemmas.Bool.{and_parts}
use Rattle.std.proofs.lemmas.Slice.Eq.{bytes_eq-Decides}
use Rattle.ioa_value.specs.Actions.{Name}
use Rattle.ioa_tree.specs.WellFormed.{contains, distinct}
use Rattle.ioa_clash.specs.Index.{named_among}
use Rattle.ioa_compile.proofs.Finds.{contains_at}
use Rattle.ioa_compile.proofs.Looks.{not_true}

module _ {E P : Type 0} (name : E → Name) (item : ℕ → ℕ → E → P) (fits : E → Bool) (x : Name) where
  -- the entry has the name, and its positions the values
  abbrev pub is_one : E → Bool
  is_one e = bytes_eq (name e) x && fits e

  outside : (es : List E) → contains (map name es) x ≡ false → find is_one es ≡ None
  outside [] h = refl
  outside (e ∷ es) h = go (bytes_eq (name e) x) h (outside es)
    where
      go : (b : Bool) → (b || contains (map name es) x) ≡ false → (contains (map name es) x ≡ false → find is_one es ≡ None)
          → cond (b && fits e) (Some e) (find is_one es) ≡ None
      go true h r = absurd (cc)
      go false h r = r h

  none-named : (c k : ℕ) (es : List E) → contains (map name es) x ≡ false → named_among name item c k es x ≡ []
  none-named c k [] h = refl
  none-named c k (e ∷ es) h = go (bytes_eq (name e) x) h (none-named c (k + 1) es)
    where
      go : (b : Bool) → (b || contains (map name es) x) ≡ false → (contains (map name es) x ≡ false → named_among name item c (k + 1) es x ≡ [])
          → cond b (item c k e ∷ named_among name item c (k + 1) es x) (named_among name item c (k + 1) es x) ≡ []
      go true h r = absurd (cc)
      go false h r = r h

  -- none of the entries is one, or one of them, and its item alone passes
  pub data Passes (c k : ℕ) (es : List E) (ps : List P) : Type 0 where
    none : find is_one es ≡ None → ps ≡ [] → Passes c k es ps
    one : (j : ℕ) (e : E) → slice_get es j ≡ Some e → bytes_eq (name e) x ≡ true → find is_one es ≡ Some e → ps ≡ item c (k + j) e ∷ [] → Passes c k es ps

  module _ (passes : P → Bool) (c : ℕ) where
    pub passing : (k : ℕ) (es : List E) → ((j : ℕ) (e : E) → slice_get es j ≡ Some e → passes (item c (k + j) e) ≡ fits e)
        → IsTrue (distinct (map name es)) → Passes c k es (filter passes (named_among name item c k es x))
    passing k [] same apart = none refl refl
    passing k (e ∷ es) same apart = go (bytes_eq (name e) x) refl (fits e) refl (passing (k + 1) es more parts.1)
      where
        parts : (IsTrue (not (contains (map name es) (name e)))) × IsTrue (distinct (map name es))
        parts = and_parts (not (contains (map name es) (name e))) (distinct (map name es)) apart

        more : (j : ℕ) (d : E) → slice_get es j ≡ Some d → passes (item c ((k + 1) + j) d) ≡ fits d
        more j d h = let n : (k + 1) + j ≡ k + suc j = omega arith in ap (λ m. passes (item c m d)) n ∙ same (suc j) d h

        rest : List P
        rest = named_among name item c (k + 1) es x

        first : passes (item c k e) ≡ fits e
        first = let n : k ≡ k + zero = omega arith in ap (λ m. passes (item c m e)) n ∙ same zero e refl

        only : bytes_eq (name e) x ≡ true → contains (map name es) x ≡ false
        only q = subst (λ (n : Name). contains (map name es) n ≡ false) ((bytes_eq-Decides (name e) x).0 q) (not_true (contains (map name es) (name e)) parts.0)

        go : (b : Bool) → bytes_eq (name e) x ≡ b → (f : Bool) → fits e ≡ f → Passes c (k + 1) es (filter passes rest)
            → Passes c k (e ∷ es) (filter passes (cond b (item c k e ∷ rest) rest))
        go true q true f r =
            let n : k ≡ k + zero = omega arith in
            let last : rest ≡ [] = none-named c (k + 1) es (only q) in
            one zero e refl q (rw (q, f) refl) (rw (first, f, last) (ap (λ m. item c m e ∷ []) n))
        go true q false f r =
            let last : rest ≡ [] = none-named c (k + 1) es (only q) in
            none (rw (q, f) (outside es (only q))) (rw (first, f, last) refl)
        go false q f g (none h l) = none (rw q h) l
        go false q f g (one j d at named h l) =
            let n : (k + 1) + j ≡ k + suc j = omega arith in
            one (suc j) d at named (rw q h) (l ∙ ap (λ m. item c m d ∷ []) n)

  -- an entry that is one is found, where the names are distinct
  pub find-one : (es : List E) (k : ℕ) (e : E) → IsTrue (distinct (map name es)) → slice_get es k ≡ Some e → is_one e ≡ true → find is_one es ≡ Some e
  find-one [] k e apart h q = absurd (cc)
  find-one (d ∷ es) zero e apart h q = let same : d ≡ e = cc in rw (ap is_one same ∙ q) (ap (λ u. Some u) same)
  find-one (d ∷ es) (suc k) e apart h q = go (bytes_eq (name d) x) refl (find-one es k e parts.1 h q)
    where
      parts : (IsTrue (not (contains (map name es) (name d)))) × IsTrue (distinct (map name es))
      parts = and_parts (not (contains (map name es) (name d))) (distinct (map name es)) apart

      go : (b : Bool) → bytes_eq (name d) x ≡ b → find is_one es ≡ Some e → cond (b && fits d) (Some d) (find is_one es) ≡ Some e
      go false t r = r
      go true t r =
          let one = (bytes_eq-Decides (name d) x).0 t in
          let other = (bytes_eq-Decides (name e) x).0 (and_parts (bytes_eq (name e) x) (fits e) q).0 in
          let there = subst (λ (n : Name). contains (map name es) n ≡ true) (other ∙ sym one) (contains_at name es k e h) in
          let no = not_true (contains (map name es) (name d)) parts.0 in
          absurd (cc)
