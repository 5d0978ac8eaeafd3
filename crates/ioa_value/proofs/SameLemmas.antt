-- When values in rows are the same.
use Rattle.std.proofs.Common.{◌≡◌, ℕ, ℤ, pos, negsuc, ap₂, suc, List, [], ◌∷◌, length, Bool, true, false, ◌&&◌, ◌==◌, refl, sym, ap, ◌∙◌, arith}
use Rattle.std.proofs.lemmas.Bool.{and_parts}
use Rattle.std.proofs.lemmas.Bool.Decides.{nat_tests}
use Rattle.ioa_value.specs.declared.value.Value.{Value}
use Rattle.ioa_value.specs.Plain.{Val, Vals, truth, num, name, tuple, items, none, more, plain_all}
use Rattle.ioa_value.specs.Same.{same, same_truth, same_number, same_all}

pub equal : (s t : ℕ) → s ≡ t → (s == t) ≡ true
equal s t e = grind (arith, nat_tests)

pub equal_numbers : (s t : ℕ) → (s == t) ≡ true → s ≡ t
equal_numbers s t e = grind (arith, nat_tests)

pub tuples : (v w : Val) (s t : ℕ) (xs ys : Vals) (r : Bool) → v ≡ tuple s xs → w ≡ tuple t ys → s ≡ t → r ≡ same_all xs ys → r ≡ same v w
tuples v w s t xs ys r e f g h =
    let whole : same v w ≡ same (tuple s xs) (tuple t ys) = ap (λ x. same x w) e ∙ ap (same (tuple s xs)) f in
    h ∙ sym (whole ∙ ap (λ b. b && same_all xs ys) (equal s t g))

pub sequences : (v w : Val) (s t : ℕ) (xs ys : Vals) (r : Bool) → v ≡ items s xs → w ≡ items t ys → s ≡ t → r ≡ same_all xs ys → r ≡ same v w
sequences v w s t xs ys r e f g h =
    let whole : same v w ≡ same (items s xs) (items t ys) = ap (λ x. same x w) e ∙ ap (same (items s xs)) f in
    h ∙ sym (whole ∙ ap (λ b. b && same_all xs ys) (equal s t g))

pub both_false : (a b : Bool) → false ≡ b → false ≡ a && b
both_false true b e = e
both_false false b e = refl

pub uneven : (xs ys : List Value) → (length xs ≡ length ys → ⊥) → false ≡ same_all (plain_all xs) (plain_all ys)
uneven [] [] e = absurd (e refl)
uneven [] (y ∷ ys) e = refl
uneven (x ∷ xs) [] e = refl
uneven (x ∷ xs) (y ∷ ys) e = both_false _ _ (uneven xs ys (λ q. e (ap suc q)))

-- ---- values that are the same are equal, and a value is the same as itself

truths_equal : (a b : Bool) → same_truth a b ≡ true → a ≡ b
truths_equal true b e = sym e
truths_equal false true e = absurd (cc)
truths_equal false false e = refl

numbers_equal : (y z : ℤ) → same_number y z ≡ true → y ≡ z
numbers_equal (pos a) (pos b) e = ap pos (equal_numbers a b e)
numbers_equal (negsuc a) (negsuc b) e = ap negsuc (equal_numbers a b e)
numbers_equal (pos a) (negsuc b) e = absurd (cc)
numbers_equal (negsuc a) (pos b) e = absurd (cc)

mutual
  pub same_equal : (v w : Val) → same v w ≡ true → v ≡ w
  same_equal (truth a) (truth b) e = ap truth (truths_equal a b e)
  same_equal (num y) (num z) e = ap num (numbers_equal y z e)
  same_equal (name s a) (name t b) e =
      let p = and_parts (s == t) (a == b) e in
      ap₂ name (equal_numbers s t p.0) (equal_numbers a b p.1)
  same_equal (tuple s a) (tuple t b) e =
      let p = and_parts (s == t) (same_all a b) e in
      ap₂ tuple (equal_numbers s t p.0) (all_equal a b p.1)
  same_equal (items s a) (items t b) e =
      let p = and_parts (s == t) (same_all a b) e in
      ap₂ items (equal_numbers s t p.0) (all_equal a b p.1)
  same_equal (truth a) (num z) e = absurd (cc)
  same_equal (truth a) (name t b) e = absurd (cc)
  same_equal (truth a) (tuple t b) e = absurd (cc)
  same_equal (truth a) (items t b) e = absurd (cc)
  same_equal (num y) (truth b) e = absurd (cc)
  same_equal (num y) (name t b) e = absurd (cc)
  same_equal (num y) (tuple t b) e = absurd (cc)
  same_equal (num y) (items t b) e = absurd (cc)
  same_equal (name s a) (truth b) e = absurd (cc)
  same_equal (name s a) (num z) e = absurd (cc)
  same_equal (name s a) (tuple t b) e = absurd (cc)
  same_equal (name s a) (items t b) e = absurd (cc)
  same_equal (tuple s a) (truth b) e = absurd (cc)
  same_equal (tuple s a) (num z) e = absurd (cc)
  same_equal (tuple s a) (name t b) e = absurd (cc)
  same_equal (tuple s a) (items t b) e = absurd (cc)
  same_equal (items s a) (truth b) e = absurd (cc)
  same_equal (items s a) (num z) e = absurd (cc)
  same_equal (items s a) (name t b) e = absurd (cc)
  same_equal (items s a) (tuple t b) e = absurd (cc)

  all_equal : (vs ws : Vals) → same_all vs ws ≡ true → vs ≡ ws
  all_equal none none e = refl
  all_equal none (more w ws) e = absurd (cc)
  all_equal (more v vs) none e = absurd (cc)
  all_equal (more v vs) (more w ws) e =
      let p = and_parts (same v w) (same_all vs ws) e in
      ap₂ more (same_equal v w p.0) (all_equal vs ws p.1)

number-refl : (z : ℤ) → same_number z z ≡ true
number-refl (pos n) = equal n n refl
number-refl (negsuc n) = equal n n refl

truth-refl : (b : Bool) → same_truth b b ≡ true
truth-refl true = refl
truth-refl false = refl

mutual
  pub same-refl : (v : Val) → same v v ≡ true
  same-refl (truth b) = truth-refl b
  same-refl (num z) = number-refl z
  same-refl (name s a) = rw (equal s s refl) (equal a a refl)
  same-refl (tuple s a) = rw (equal s s refl) (all-refl a)
  same-refl (items s a) = rw (equal s s refl) (all-refl a)

  all-refl : (vs : Vals) → same_all vs vs ≡ true
  all-refl none = refl
  all-refl (more v vs) = rw (same-refl v) (all-refl vs)
