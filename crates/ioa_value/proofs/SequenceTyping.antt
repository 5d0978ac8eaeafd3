-- Items and fields that have their types, in lists, and the sequences and tuples that are made of them.
use Rattle.std.proofs.Common.{◌≡◌, ℕ, zero, suc, ◌<◌, ◌≤◌, ℤ, pos, negsuc, Bool, true, false, IsTrue, cond, ◌&&◌, ◌==◌, List, [], ◌∷◌, ◌++◌, length, Option, Some, None, refl, sym, ap, subst, ◌∙◌, arith}
use Rattle.std.specs.Prelude.{nat_le, slice_get}
use Rattle.std.specs.Option.{option_map}
use Rattle.std.proofs.lemmas.Bool.{and_parts, and_from}
use Rattle.std.proofs.lemmas.Bool.Decides.{nat_tests}
use Rattle.ioa_value.specs.Plain.{Val, Vals, items, tuple, none, more, vals, listed, count}
use Rattle.ioa_value.specs.Table.{Table, TupleField, Shape, fields, sequence, shape_at, types_of, AreTypes}
use Rattle.ioa_value.specs.Typing.{of_fields, of_sequence, is_of, parts_are, items_are, HasType, HaveTypes}
use Rattle.ioa_value.specs.Same.{same}
use Rattle.ioa_value.specs.Sequences.{last_item, all_but_first, all_but_last, item_at, without_first}
use Rattle.ioa_value.proofs.PlainLemmas.{vals-listed, length-listed}
use Rattle.ioa_value.proofs.SameLemmas.{equal}
use Rattle.ioa_value.proofs.TypingLemmas.{is_sequence, is_tuple}

count-vals : (xs : List Val) → count (vals xs) ≡ length xs
count-vals [] = refl
count-vals (x ∷ xs) = ap (λ n. suc n) (count-vals xs)

module _ (types : Table) where
  -- ---- items of a type

  abbrev pub AreItems : List Val → ℕ → Type 0
  AreItems xs of = IsTrue (items_are types (vals xs) of)

  head_typed : (x : Val) (xs : List Val) (of : ℕ) → AreItems (x ∷ xs) of → HasType types x of × AreItems xs of
  head_typed x xs of h = and_parts (is_of types x of) (items_are types (vals xs) of) h

  one_more : (x : Val) (xs : List Val) (of : ℕ) → HasType types x of → AreItems xs of → AreItems (x ∷ xs) of
  one_more x xs of h k = and_from (is_of types x of) (items_are types (vals xs) of) h k

  pub item_typed : (xs : List Val) (of i : ℕ) (x : Val) → AreItems xs of → slice_get xs i ≡ Some x → HasType types x of
  item_typed [] of i x h e = absurd (cc)
  item_typed (y ∷ ys) of zero x h e = let same : y ≡ x = cc in subst (λ v. HasType types v of) same (head_typed y ys of h).0
  item_typed (y ∷ ys) of (suc i) x h e = item_typed ys of i x (head_typed y ys of h).1 e

  pub at_typed : (xs : List Val) (of : ℕ) (z : ℤ) (x : Val) → AreItems xs of → item_at xs z ≡ Some x → HasType types x of
  at_typed xs of (pos i) x h e = item_typed xs of i x h e
  at_typed xs of (negsuc i) x h e = absurd (cc)

  pub last_typed : (xs : List Val) (of : ℕ) (x : Val) → AreItems xs of → last_item xs ≡ Some x → HasType types x of
  last_typed [] of x h e = absurd (cc)
  last_typed (y ∷ []) of x h e = let same : y ≡ x = cc in subst (λ v. HasType types v of) same (head_typed y [] of h).0
  last_typed (y ∷ z ∷ zs) of x h e = last_typed (z ∷ zs) of x (head_typed y (z ∷ zs) of h).1 e

  -- ---- items that are left, and one more

  -- items of the type, no more of them than there may be
  abbrev pub Fit : List Val → ℕ → ℕ → Type 0
  Fit xs most of = (length xs ≤ most) × AreItems xs of

  pub rest_fits : (xs ys : List Val) (most of : ℕ) → Fit xs most of → all_but_first xs ≡ Some ys → Fit ys most of
  rest_fits [] ys most of h e = absurd (cc)
  rest_fits (x ∷ xs) ys most of h e =
      let same : xs ≡ ys = cc in subst (λ l. Fit l most of) same (omega (arith, h.0), (head_typed x xs of h.1).1)

  pub init_fits : (xs ys : List Val) (most of : ℕ) → Fit xs most of → all_but_last xs ≡ Some ys → Fit ys most of
  init_fits [] ys most of h e = absurd (cc)
  init_fits (x ∷ []) ys most of h e = let same : [] ≡ ys = cc in subst (λ l. Fit l most of) same (omega arith, refl)
  init_fits (x ∷ y ∷ zs) ys zero of h e = absurd (omega (arith, h.0))
  init_fits (x ∷ y ∷ zs) ys (suc most) of h e =
      let p = head_typed x (y ∷ zs) of h.1 in
      go p.0 (λ us f. init_fits (y ∷ zs) us most of (omega (arith, h.0), p.1) f) (all_but_last (y ∷ zs)) refl e
    where
      go : HasType types x of → ((us : List Val) → all_but_last (y ∷ zs) ≡ Some us → Fit us most of) → (o : Option (List Val)) → all_but_last (y ∷ zs) ≡ o → option_map (λ l. x ∷ l) o ≡ Some ys → Fit ys (suc most) of
      go t within None f g = absurd (cc)
      go t within (Some us) f g =
          let r = within us f in
          let same : x ∷ us ≡ ys = cc in
          subst (λ l. Fit l (suc most) of) same (omega (arith, r.0), one_more x us of t r.1)

  pub append_fits : (xs : List Val) (x : Val) (most of : ℕ) → length xs < most → AreItems xs of → HasType types x of → Fit (xs ++ x ∷ []) most of
  append_fits [] x most of lt h t = (omega (arith, lt), one_more x [] of t refl)
  append_fits (y ∷ ys) x zero of lt h t = absurd (omega (arith, lt))
  append_fits (y ∷ ys) x (suc most) of lt h t =
      let p = head_typed y ys of h in
      let r = append_fits ys x most of (omega (arith, lt)) p.1 t in
      (omega (arith, r.0), one_more y (ys ++ x ∷ []) of p.0 r.1)

  pub without_fits : (x : Val) (xs : List Val) (most of : ℕ) → Fit xs most of → Fit (without_first x xs) most of
  without_fits x [] most of h = h
  without_fits x (y ∷ ys) zero of h = absurd (omega (arith, h.0))
  without_fits x (y ∷ ys) (suc most) of h =
      let p = head_typed y ys of h.1 in
      go p.0 (omega (arith, h.0), p.1) (without_fits x ys most of (omega (arith, h.0), p.1)) (same x y)
    where
      go : HasType types y of → Fit ys most of → Fit (without_first x ys) most of → (b : Bool) → Fit (cond b ys (y ∷ without_first x ys)) (suc most) of
      go t rest within true = (omega (arith, rest.0), rest.1)
      go t rest within false = (omega (arith, within.0), one_more y (without_first x ys) of t within.1)

  -- ---- fields of their types

  pub parts-HaveTypes : (vs : Vals) (tys : List ℕ) → IsTrue (parts_are types vs tys) → HaveTypes types (listed vs) tys
  parts-HaveTypes none [] h = tt
  parts-HaveTypes none (ty ∷ tys) h = absurd (cc)
  parts-HaveTypes (more v vs) [] h = absurd (cc)
  parts-HaveTypes (more v vs) (ty ∷ tys) h =
      let p = and_parts (is_of types v ty) (parts_are types vs tys) h in (p.0, parts-HaveTypes vs tys p.1)

  pub HaveTypes-parts : (vs : List Val) (tys : List ℕ) → HaveTypes types vs tys → IsTrue (parts_are types (vals vs) tys)
  HaveTypes-parts [] [] h = refl
  HaveTypes-parts [] (ty ∷ tys) h = absurd h
  HaveTypes-parts (v ∷ vs) [] h = absurd h
  HaveTypes-parts (v ∷ vs) (ty ∷ tys) h =
      and_from (is_of types v ty) (parts_are types (vals vs) tys) h.0 (HaveTypes-parts vs tys h.1)

  -- ---- what is made of them

  pub sequence_typed : (xs : List Val) (s most of : ℕ) → shape_at types s ≡ Some (sequence most of) → Fit xs most of → HasType types (items s (vals xs)) s
  sequence_typed xs s most of e h =
      let test : Option Shape → Bool = λ o. of_sequence o (λ m t. nat_le (count (vals xs)) m && items_are types (vals xs) t) in
      let few : nat_le (count (vals xs)) most ≡ true = ap (λ n. nat_le n most) (count-vals xs) ∙ room in
      and_from (s == s) (test (shape_at types s)) (equal s s refl) (ap test e ∙ and_from (nat_le (count (vals xs)) most) (items_are types (vals xs) of) few h.1)
    where
      room : nat_le (length xs) most ≡ true
      room = grind (arith, nat_tests, h.0)

  pub made_typed : (xs : List Val) (s : ℕ) (fs : List TupleField) → shape_at types s ≡ Some (fields fs) → HaveTypes types xs (types_of fs) → HasType types (tuple s (vals xs)) s
  made_typed xs s fs e h =
      let test : Option Shape → Bool = λ o. of_fields o (λ tys. parts_are types (vals xs) tys) in
      and_from (s == s) (test (shape_at types s)) (equal s s refl) (ap test e ∙ HaveTypes-parts xs (types_of fs) h)

-- ---- what a value of a sequence type or of a tuple type is

module _ (types : Table) (declared : AreTypes types) where
  pub sequence_parts : (v : Val) (s most of : ℕ) → HasType types v s → shape_at types s ≡ Some (sequence most of) → (xs : Vals) × (v ≡ items s xs) × Fit types (listed xs) most of
  sequence_parts v s most of h e =
      let p = is_sequence types declared v s most of h e in
      let q = and_parts (nat_le (count p.0) most) (items_are types p.0 of) p.2 in
      let few : count p.0 ≤ most = below (count p.0) most q.0 in
      (p.0, p.1, (omega (arith, few, length-listed p.0), subst (λ l. IsTrue (items_are types l of)) (sym (vals-listed p.0)) q.1))
    where
      below : (a b : ℕ) → nat_le a b ≡ true → a ≤ b
      below a b e = grind (arith, nat_tests)

  pub tuple_parts : (v : Val) (s : ℕ) (fs : List TupleField) → HasType types v s → shape_at types s ≡ Some (fields fs) → (xs : Vals) × (v ≡ tuple s xs) × HaveTypes types (listed xs) (types_of fs)
  tuple_parts v s fs h e =
      let p = is_tuple types declared v s fs h e in (p.0, p.1, parts-HaveTypes types p.0 (types_of fs) p.2)
