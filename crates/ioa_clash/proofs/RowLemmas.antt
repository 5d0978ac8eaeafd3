-- Rows of an index: one row more, and an item more in a row.
use Rattle.std.proofs.Common.{◌≡◌, ℕ, zero, suc, ◌+◌, Bool, true, false, cond, List, [], ◌∷◌, ◌++◌, length, None, Some, refl, sym, ap, ◌∙◌, arith, slice_get}
use Rattle.std.specs.Prelude.{slice_set}
use Rattle.std.specs.Str.{bytes_eq}
use Rattle.std.specs.String.{string_bytes}
use Rattle.std.proofs.lemmas.Slice.Eq.{bytes_eq-Decides}
use Rattle.ioa_value.specs.Actions.{Name}
use Rattle.ioa_clash.specs.declared.index.Row.{Row}
use Rattle.ioa_clash.specs.Rows.{names_of, number_of}
use Rattle.ioa_clash.specs.Index.{items_of}

-- a name more
pub numbered-more : (n : ℕ) (ms : List Name) (y x : Name) → number_of n ms y ≡ None
    → number_of n (ms ++ y ∷ []) x ≡ cond (bytes_eq y x) (Some (n + length ms)) (number_of n ms x)
numbered-more n [] y x h = let first : n ≡ n + zero = omega arith in ap (λ m. cond (bytes_eq y x) (Some m) None) first
numbered-more n (m ∷ ms) y x h = go (bytes_eq m y) refl h (bytes_eq m x) refl (numbered-more (n + 1) ms y x)
  where
    next : (n + 1) + length ms ≡ n + suc (length ms)
    next = omega arith

    go : (b : Bool) → bytes_eq m y ≡ b → cond b (Some n) (number_of (n + 1) ms y) ≡ None → (c : Bool) → bytes_eq m x ≡ c
        → (number_of (n + 1) ms y ≡ None → number_of (n + 1) (ms ++ y ∷ []) x ≡ cond (bytes_eq y x) (Some ((n + 1) + length ms)) (number_of (n + 1) ms x))
        → cond c (Some n) (number_of (n + 1) (ms ++ y ∷ []) x) ≡ cond (bytes_eq y x) (Some (n + suc (length ms))) (cond c (Some n) (number_of (n + 1) ms x))
    go true p h c q more = absurd (cc)
    go false p h false q more = more h ∙ ap (λ k. cond (bytes_eq y x) (Some k) (number_of (n + 1) ms x)) next
    go false p h true q more = last (bytes_eq y x) refl
      where
        last : (d : Bool) → bytes_eq y x ≡ d → Some n ≡ cond d (Some (n + suc (length ms))) (Some n)
        last false e = refl
        last true e =
            let one = (bytes_eq-Decides m x).0 q in
            let other = (bytes_eq-Decides y x).0 e in
            let same : bytes_eq m y ≡ true = (bytes_eq-Decides m y).1 (one ∙ sym other) in
            absurd (cc)

module _ {P : Type 0} where
  -- the row of a number that is found
  pub record IsRow (n : ℕ) (rows : List (Row P)) (x : Name) (i : ℕ) : Type 0 where
    pub place : ℕ
    pub row : Row P
    pub is : i ≡ n + place
    pub here : slice_get rows place ≡ Some row
    pub items : items_of rows x ≡ row.items.items

  pub found : (n : ℕ) (rows : List (Row P)) (x : Name) (i : ℕ) → number_of n (names_of rows) x ≡ Some i → IsRow n rows x i
  found n [] x i h = absurd (cc)
  found n (r ∷ rows) x i h = go (bytes_eq (string_bytes r.name) x) refl h (found (n + 1) rows x i)
    where
      go : (b : Bool) → bytes_eq (string_bytes r.name) x ≡ b → cond b (Some n) (number_of (n + 1) (names_of rows) x) ≡ Some i
          → (number_of (n + 1) (names_of rows) x ≡ Some i → IsRow (n + 1) rows x i) → IsRow n (r ∷ rows) x i
      go true q h more =
          let same : n ≡ i = cc in
          let first : n ≡ n + zero = omega arith in
          record { place = zero; row = r; is = sym same ∙ first; here = refl; items = ap (λ b. cond b r.items.items (items_of rows x)) q }
      go false q h more =
          let w = more h in
          let next : (n + 1) + w.place ≡ n + suc w.place = omega arith in
          record { place = suc w.place; row = w.row; is = w.is ∙ next; here = w.here; items = ap (λ b. cond b r.items.items (items_of rows x)) q ∙ w.items }

  pub missing : (n : ℕ) (rows : List (Row P)) (x : Name) → number_of n (names_of rows) x ≡ None → items_of rows x ≡ []
  missing n [] x h = refl
  missing n (r ∷ rows) x h = go (bytes_eq (string_bytes r.name) x) h (missing (n + 1) rows x)
    where
      go : (b : Bool) → cond b (Some n) (number_of (n + 1) (names_of rows) x) ≡ None → (number_of (n + 1) (names_of rows) x ≡ None → items_of rows x ≡ [])
          → cond b r.items.items (items_of rows x) ≡ []
      go true h more = absurd (cc)
      go false h more = more h

  -- ---- a row more

  pub names-more : (rows : List (Row P)) (r : Row P) → names_of (rows ++ r ∷ []) ≡ names_of rows ++ string_bytes r.name ∷ []
  names-more [] r = refl
  names-more (s ∷ rows) r = ap (λ ms. string_bytes s.name ∷ ms) (names-more rows r)

  pub items-more : (n : ℕ) (rows : List (Row P)) (r : Row P) (x : Name) → number_of n (names_of rows) (string_bytes r.name) ≡ None
      → items_of (rows ++ r ∷ []) x ≡ cond (bytes_eq (string_bytes r.name) x) r.items.items (items_of rows x)
  items-more n [] r x h = refl
  items-more n (s ∷ rows) r x h = go (bytes_eq (string_bytes s.name) (string_bytes r.name)) refl h (bytes_eq (string_bytes s.name) x) refl (items-more (n + 1) rows r x)
    where
      go : (b : Bool) → bytes_eq (string_bytes s.name) (string_bytes r.name) ≡ b → cond b (Some n) (number_of (n + 1) (names_of rows) (string_bytes r.name)) ≡ None
          → (c : Bool) → bytes_eq (string_bytes s.name) x ≡ c
          → (number_of (n + 1) (names_of rows) (string_bytes r.name) ≡ None → items_of (rows ++ r ∷ []) x ≡ cond (bytes_eq (string_bytes r.name) x) r.items.items (items_of rows x))
          → cond c s.items.items (items_of (rows ++ r ∷ []) x) ≡ cond (bytes_eq (string_bytes r.name) x) r.items.items (cond c s.items.items (items_of rows x))
      go true p h c q more = absurd (cc)
      go false p h false q more = more h
      go false p h true q more = last (bytes_eq (string_bytes r.name) x) refl
        where
          last : (d : Bool) → bytes_eq (string_bytes r.name) x ≡ d → s.items.items ≡ cond d r.items.items s.items.items
          last false e = refl
          last true e =
              let one = (bytes_eq-Decides (string_bytes s.name) x).0 q in
              let other = (bytes_eq-Decides (string_bytes r.name) x).0 e in
              let same : bytes_eq (string_bytes s.name) (string_bytes r.name) ≡ true = (bytes_eq-Decides (string_bytes s.name) (string_bytes r.name)).1 (one ∙ sym other) in
              absurd (cc)

  pub first-item : (b : Bool) (items : List P) (item : P) → (b ≡ true → items ≡ []) → cond b (item ∷ []) items ≡ cond b (items ++ item ∷ []) items
  first-item true items item h = ap (λ l. l ++ item ∷ []) (sym (h refl))
  first-item false items item h = refl

  -- ---- an item more in a row

  pub names-set : (rows : List (Row P)) (i : ℕ) (r new : Row P) → slice_get rows i ≡ Some r → string_bytes new.name ≡ string_bytes r.name → names_of (slice_set rows i new) ≡ names_of rows
  names-set [] i r new h e = refl
  names-set (s ∷ rows) zero r new h e = let same : s ≡ r = cc in ap (λ m. m ∷ names_of rows) (e ∙ ap (λ (t : Row P). string_bytes t.name) (sym same))
  names-set (s ∷ rows) (suc i) r new h e = ap (λ ms. string_bytes s.name ∷ ms) (names-set rows i r new h e)

  pub items-set : (n : ℕ) (rows : List (Row P)) (i : ℕ) (r new : Row P) (y x : Name) (item : P) → number_of n (names_of rows) y ≡ Some (n + i) → slice_get rows i ≡ Some r
      → string_bytes new.name ≡ string_bytes r.name → new.items.items ≡ r.items.items ++ item ∷ []
      → items_of (slice_set rows i new) x ≡ cond (bytes_eq y x) (items_of rows x ++ item ∷ []) (items_of rows x)
  items-set n [] i r new y x item h g e f = absurd (cc)
  items-set n (s ∷ rows) zero r new y x item h g e f = go (bytes_eq (string_bytes s.name) y) refl h
    where
      same : s ≡ r
      same = cc

      go : (b : Bool) → bytes_eq (string_bytes s.name) y ≡ b → cond b (Some n) (number_of (n + 1) (names_of rows) y) ≡ Some (n + zero)
          → cond (bytes_eq (string_bytes new.name) x) new.items.items (items_of rows x)
          ≡ cond (bytes_eq y x) (cond (bytes_eq (string_bytes s.name) x) s.items.items (items_of rows x) ++ item ∷ []) (cond (bytes_eq (string_bytes s.name) x) s.items.items (items_of rows x))
      go false q h = let w = found (n + 1) rows y (n + zero) h in let k = w.is in absurd (omega arith)
      go true q h =
          let mine : string_bytes s.name ≡ y = (bytes_eq-Decides (string_bytes s.name) y).0 q in
          let named : string_bytes new.name ≡ y = e ∙ ap (λ (t : Row P). string_bytes t.name) (sym same) ∙ mine in
          let items : new.items.items ≡ s.items.items ++ item ∷ [] = f ∙ ap (λ (t : Row P). t.items.items ++ item ∷ []) (sym same) in
          ap (λ m. cond (bytes_eq m x) new.items.items (items_of rows x)) named
          ∙ ap (λ l. cond (bytes_eq y x) l (items_of rows x)) items
          ∙ either (bytes_eq y x)
          ∙ ap (λ m. cond (bytes_eq y x) (cond (bytes_eq m x) s.items.items (items_of rows x) ++ item ∷ []) (cond (bytes_eq m x) s.items.items (items_of rows x))) (sym mine)
        where
          either : (b : Bool) → cond b (s.items.items ++ item ∷ []) (items_of rows x)
              ≡ cond b (cond b s.items.items (items_of rows x) ++ item ∷ []) (cond b s.items.items (items_of rows x))
          either true = refl
          either false = refl
  items-set n (s ∷ rows) (suc i) r new y x item h g e f = go (bytes_eq (string_bytes s.name) y) refl h (bytes_eq (string_bytes s.name) x) refl (λ k. items-set (n + 1) rows i r new y x item k g e f)
    where
      go : (b : Bool) → bytes_eq (string_bytes s.name) y ≡ b → cond b (Some n) (number_of (n + 1) (names_of rows) y) ≡ Some (n + suc i)
          → (c : Bool) → bytes_eq (string_bytes s.name) x ≡ c
          → (number_of (n + 1) (names_of rows) y ≡ Some ((n + 1) + i) → items_of (slice_set rows i new) x ≡ cond (bytes_eq y x) (items_of rows x ++ item ∷ []) (items_of rows x))
          → cond c s.items.items (items_of (slice_set rows i new) x)
          ≡ cond (bytes_eq y x) (cond c s.items.items (items_of rows x) ++ item ∷ []) (cond c s.items.items (items_of rows x))
      go true p h c q more = let k : n ≡ n + suc i = cc in absurd (omega arith)
      go false p h false q more = let k : n + suc i ≡ (n + 1) + i = omega arith in more (h ∙ ap (λ m. Some m) k)
      go false p h true q more = last (bytes_eq y x) refl
        where
          last : (d : Bool) → bytes_eq y x ≡ d → s.items.items ≡ cond d (s.items.items ++ item ∷ []) s.items.items
          last false e = refl
          last true e =
              let one = (bytes_eq-Decides (string_bytes s.name) x).0 q in
              let other = (bytes_eq-Decides y x).0 e in
              let same : bytes_eq (string_bytes s.name) y ≡ true = (bytes_eq-Decides (string_bytes s.name) y).1 (one ∙ sym other) in
              absurd (cc)
