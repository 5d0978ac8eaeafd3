-- The first value of a type.
use Rattle.std.proofs.Common.{◌≡◌, ℕ, zero, suc, ◌+◌, ◌<◌, List, [], ◌∷◌, ◌++◌, map, get_or, take, length, true, ◌==◌, nat_lt, nat_le, IsTrue, Option, Some, None, refl, sym, ap, ◌∙◌, subst, arith, All}
use Rattle.std.specs.Prelude.{slice_get}
use Rattle.std.specs.Option.{option_map}
use Rattle.std.proofs.lemmas.List.Elements.{All-head, All-tail, All-cons, All-nil}
use Rattle.ioa_value.specs.declared.types.Field.{Field}
use Rattle.ioa_value.specs.declared.value.Value.{Value}
use Rattle.ioa_value.specs.Shapes.{tuple_field}
use Rattle.ioa_value.proofs.TableLemmas.{stands}
use Rattle.std.proofs.lemmas.Bool.Decides.{nat_tests}
use Rattle.ioa_value.proofs.SameLemmas.{equal}
use Rattle.ioa_value.proofs.PlainLemmas.{put_last, plain_all-last}
use Rattle.ioa_value.specs.Plain.{Val, tuple, more, plain, plain_all}
use Rattle.ioa_value.specs.Table.{Table, Shape, TupleField, truths, numbers, names, fields, sequence, shape_at, types_of, AreTypes}
use Rattle.ioa_value.specs.Typing.{HasType, parts_are, firsts, first_shaped, first_in, first_of}

-- values that agree on the types of a list
pub firsts_agree : (f g : ℕ → Val) (P : ℕ → Type 0) (tys : List ℕ) → ((t : ℕ) → P t → f t ≡ g t) → All P tys → firsts f tys ≡ firsts g tys
firsts_agree f g P [] e h = refl
firsts_agree f g P (t ∷ ts) e h =
    ap (λ v. more v (firsts f ts)) (e t (All-head P t ts h)) ∙ ap (more (g t)) (firsts_agree f g P ts e (All-tail P t ts h))

-- ---- the fields, one by one

pub field_before : (n : ℕ) (fs : List Field) (i : ℕ) (d : Field) → i < length fs → All (λ t. t < n) (types_of (map tuple_field fs)) → (get_or fs i d).ty.0 < n
field_before n [] i d lt h = absurd (omega arith)
field_before n (f ∷ fs) zero d lt h = All-head (λ t. t < n) f.ty.0 (types_of (map tuple_field fs)) h
field_before n (f ∷ fs) (suc i) d lt h =
    field_before n fs i d (omega arith) (All-tail (λ t. t < n) f.ty.0 (types_of (map tuple_field fs)) h)

firsts_suc : (g : ℕ → Val) (fs : List Field) (i : ℕ) (d : Field) → i < length fs → put_last (firsts g (types_of (map tuple_field (take i fs)))) (g (get_or fs i d).ty.0) ≡ firsts g (types_of (map tuple_field (take (suc i) fs)))
firsts_suc g [] i d lt = absurd (omega arith)
firsts_suc g (f ∷ fs) zero d lt = refl
firsts_suc g (f ∷ fs) (suc i) d lt = ap (more (g f.ty.0)) (firsts_suc g fs i d (omega arith))

pub firsts_more : (g : ℕ → Val) (fs : List Field) (i : ℕ) (d : Field) (vs ws : List Value) (v : Value) → i < length fs → plain_all vs ≡ firsts g (types_of (map tuple_field (take i fs))) → ws ≡ vs ++ v ∷ [] → plain v ≡ g (get_or fs i d).ty.0 → plain_all ws ≡ firsts g (types_of (map tuple_field (take (i + 1) fs)))
firsts_more g fs i d vs ws v lt e w-is v-is =
    let up : suc i ≡ i + 1 = omega arith in
    ap plain_all w-is ∙ plain_all-last vs v ∙ ap (λ l. put_last l (plain v)) e ∙ ap (put_last (firsts g (types_of (map tuple_field (take i fs))))) v-is
    ∙ firsts_suc g fs i d lt
    ∙ ap (λ n. firsts g (types_of (map tuple_field (take n fs)))) up

module _ (types : Table) (declared : AreTypes types) where
  -- enough steps give one value
  pub enough : (n m t : ℕ) → t < n → t < m → first_in n types t ≡ first_in m types t
  enough zero m t a b = absurd (omega arith)
  enough (suc n) zero t a b = absurd (omega arith)
  enough (suc n) (suc m) t a b = go (shape_at types t) refl (λ k. enough n m k)
    where
      go : (o : Option Shape) → shape_at types t ≡ o → ((k : ℕ) → k < n → k < m → first_in n types k ≡ first_in m types k) → first_shaped (λ k. first_in n types k) t o ≡ first_shaped (λ k. first_in m types k) t o
      go None at ih = refl
      go (Some truths) at ih = refl
      go (Some numbers) at ih = refl
      go (Some (names ns)) at ih = refl
      go (Some (sequence most of)) at ih = refl
      go (Some (fields fs)) at ih =
          ap (tuple t) (firsts_agree (λ k. first_in n types k) (λ k. first_in m types k) (λ k. k < t) (types_of fs) (λ k lt. ih k (omega arith) (omega arith)) (stands types t (fields fs) declared at).2)

  -- a tuple's first value is that of the fields' first values
  pub first_tuple : (ty : ℕ) (fs : List TupleField) → shape_at types ty ≡ Some (fields fs) → All (λ t. t < ty) (types_of fs) → tuple ty (firsts (first_of types) (types_of fs)) ≡ first_of types ty
  first_tuple ty fs at h =
      ap (tuple ty) (firsts_agree (first_of types) (λ t. first_in ty types t) (λ t. t < ty) (types_of fs) (λ t lt. enough (suc t) ty t (omega arith) lt) h)
      ∙ sym (ap (first_shaped (λ t. first_in ty types t) ty) at)

  parts_have : (f : ℕ → Val) (P : ℕ → Type 0) (tys : List ℕ) → ((t : ℕ) → P t → HasType types (f t) t) → All P tys → IsTrue (parts_are types (firsts f tys) tys)
  parts_have f P [] e h = refl
  parts_have f P (t ∷ ts) e h = rw (e t (All-head P t ts h)) (parts_have f P ts e (All-tail P t ts h))

  -- the first value has the type
  pub first_typed : (n t : ℕ) → t < n → t < length types → HasType types (first_in n types t) t
  first_typed zero t a b = absurd (omega arith)
  first_typed (suc n) t a b = go (shape_at types t) refl (λ k. first_typed n k)
    where
      there : (xs : Table) (k : ℕ) → k < length xs → option_map (λ x. x.shape) (slice_get xs k) ≡ None → ⊥
      there [] k lt e = absurd (omega arith)
      there (x ∷ xs) zero lt e = absurd (cc)
      there (x ∷ xs) (suc k) lt e = there xs k (omega arith) e

      its_own : (t == t) ≡ true
      its_own = equal t t refl

      go : (o : Option Shape) → shape_at types t ≡ o → ((k : ℕ) → k < n → k < length types → HasType types (first_in n types k) k) → HasType types (first_shaped (λ k. first_in n types k) t o) t
      go None at ih = absurd (there types t b at)
      go (Some truths) at ih = equal t 0 (stands types t truths declared at)
      go (Some numbers) at ih = rw (equal t 1 (stands types t numbers declared at)) refl
      go (Some (names ns)) at ih =
          let some = (stands types t (names ns) declared at).0 in
          let test : nat_lt 0 (length ns) ≡ true = grind (arith, nat_tests) in
          rw its_own (rw at test)
      go (Some (sequence most of)) at ih =
          let room : nat_le 0 most ≡ true = grind (arith, nat_tests) in
          rw its_own (rw at (rw room refl))
      go (Some (fields fs)) at ih =
          rw its_own (rw at (parts_have (λ k. first_in n types k) (λ k. k < t) (types_of fs) (λ k lt. ih k (omega arith) (omega arith)) (stands types t (fields fs) declared at).2))

  pub first_of_typed : (t : ℕ) → t < length types → HasType types (first_of types t) t
  first_of_typed t lt = first_typed (suc t) t (omega arith) lt

earlier_suc : (n : ℕ) (fs : List Field) (i : ℕ) (d : Field) → i < length fs → All (λ t. t < n) (types_of (map tuple_field (take i fs))) → (get_or fs i d).ty.0 < n → All (λ t. t < n) (types_of (map tuple_field (take (suc i) fs)))
earlier_suc n [] i d lt h k = absurd (omega arith)
earlier_suc n (f ∷ fs) zero d lt h k = All-cons (λ t. t < n) f.ty.0 [] k (All-nil (λ t. t < n))
earlier_suc n (f ∷ fs) (suc i) d lt h k =
    All-cons (λ t. t < n) f.ty.0 (types_of (map tuple_field (take (suc i) fs))) (All-head (λ t. t < n) f.ty.0 (types_of (map tuple_field (take i fs))) h)
    (earlier_suc n fs i d (omega arith) (All-tail (λ t. t < n) f.ty.0 (types_of (map tuple_field (take i fs))) h) k)

pub earlier_more : (n : ℕ) (fs : List Field) (i : ℕ) (d : Field) → i < length fs → All (λ t. t < n) (types_of (map tuple_field (take i fs))) → (get_or fs i d).ty.0 < n → All (λ t. t < n) (types_of (map tuple_field (take (i + 1) fs)))
earlier_more n fs i d lt h k =
    let up : suc i ≡ i + 1 = omega arith in
    subst (λ m. All (λ t. t < n) (types_of (map tuple_field (take m fs)))) up (earlier_suc n fs i d lt h k)
