-- The number that a word spells is the one that is computed of it.
use Rattle.std.proofs.Common.{◌≡◌, ℕ, zero, suc, ◌+◌, ◌*◌, ◌^◌, ◌<◌, ◌≤◌, Bool, true, false, cond, ◌&&◌, ◌==◌, nat_lt, ℤ, pos, negsuc, neg_ℤ, ◌+ℤ◌, ◌-ℤ◌, FitsSigned, w64, SomeIff, List, [], ◌∷◌, length, drop, get_or, Option, Some, None, refl, sym, ap, ◌∙◌, arith, inl, inr}
use Rattle.std.specs.Char.{digit_value, is_ascii_digit}
use Rattle.std.specs.List.{list_all}
use Rattle.std.specs.Option.{option_map_or}
use Rattle.std.specs.Str.Parse.{AllDigits, IsNumeral, digits_value, digits_value_after}
use Rattle.std.proofs.lemmas.Bool.{and_parts, false≢true}
use Rattle.std.proofs.lemmas.Bool.Decides.{nat_tests}
use Rattle.std.proofs.lemmas.Int.{ints}
use Rattle.std.proofs.lemmas.List.{drop_more}
use Rattle.std.proofs.lemmas.Str.Parse.{digit_from_value}
use Rattle.ioa_arithmetic.specs.Arithmetic.{fits}
use Rattle.ioa_value.specs.Names.{begins_with_letter}
use Rattle.ioa_value.specs.Reads.{SpellsNumber}
use Rattle.ioa_value.specs.Scanning.{is_numeral, spelled_number, number_in}

below : (c : ℕ) → nat_lt (digit_value c) 10 ≡ true → digit_value c < 10
below c e = grind (arith, nat_tests)

pub tested : (c : ℕ) → digit_value c < 10 → nat_lt (digit_value c) 10 ≡ true
tested c e = grind (arith, nat_tests)

all_digits : (ds : List ℕ) → list_all (λ d. nat_lt (digit_value d) 10) ds ≡ true → AllDigits 10 ds
all_digits [] e = tt
all_digits (c ∷ cs) e =
    let p = and_parts (nat_lt (digit_value c) 10) (list_all (λ d. nat_lt (digit_value d) 10) cs) e in
    (below c p.0, all_digits cs p.1)

digits_all : (ds : List ℕ) → AllDigits 10 ds → list_all (λ d. nat_lt (digit_value d) 10) ds ≡ true
digits_all [] h = refl
digits_all (c ∷ cs) h = rw (tested c h.0) (digits_all cs h.1)

numeral_is : (ds : List ℕ) → is_numeral ds ≡ true → IsNumeral 10 ds
numeral_is [] e = absurd (false≢true e)
numeral_is (c ∷ cs) e = (omega arith, all_digits (c ∷ cs) e)

is_numeral_so : (ds : List ℕ) → IsNumeral 10 ds → is_numeral ds ≡ true
is_numeral_so [] h = absurd (omega (arith, h.0))
is_numeral_so (c ∷ cs) h = digits_all (c ∷ cs) h.1

minus : (c : ℕ) → (c == 45) ≡ true → c ≡ 45
minus c e = grind (arith, nat_tests)

spelled_is : (w : List ℕ) (z : ℤ) → spelled_number w ≡ Some z → SpellsNumber w z
spelled_is [] z e = absurd (cc)
spelled_is (c ∷ cs) z e = by_sign (c == 45) refl e
  where
    signed : (b : Bool) → is_numeral cs ≡ b → c ≡ 45 → cond b (Some (neg_ℤ (pos (digits_value 10 cs)))) None ≡ Some z → SpellsNumber (c ∷ cs) z
    signed true n m e = let same : neg_ℤ (pos (digits_value 10 cs)) ≡ z = cc in (cs, numeral_is cs n, inr (ap (λ x. x ∷ cs) m, sym same))
    signed false n m e = absurd (cc)

    bare : (b : Bool) → is_numeral (c ∷ cs) ≡ b → cond b (Some (pos (digits_value 10 (c ∷ cs)))) None ≡ Some z → SpellsNumber (c ∷ cs) z
    bare true n e = let same : pos (digits_value 10 (c ∷ cs)) ≡ z = cc in (c ∷ cs, numeral_is (c ∷ cs) n, inl (refl, sym same))
    bare false n e = absurd (cc)

    by_sign : (b : Bool) → (c == 45) ≡ b → cond b (cond (is_numeral cs) (Some (neg_ℤ (pos (digits_value 10 cs)))) None) (cond (is_numeral (c ∷ cs)) (Some (pos (digits_value 10 (c ∷ cs)))) None) ≡ Some z → SpellsNumber (c ∷ cs) z
    by_sign true s e = signed (is_numeral cs) refl (minus c s) e
    by_sign false s e = bare (is_numeral (c ∷ cs)) refl e

no_sign : (c : ℕ) → digit_value c < 10 → (c == 45) ≡ false
no_sign c h = let r = digit_from_value c h in grind (arith, nat_tests)

unsigned : (ds : List ℕ) → IsNumeral 10 ds → spelled_number ds ≡ Some (pos (digits_value 10 ds))
unsigned [] h = absurd (omega (arith, h.0))
unsigned (c ∷ cs) h = rw (no_sign c h.1.0) (rw (digits_all (c ∷ cs) h.1) refl)

spelled_so : (w : List ℕ) (z : ℤ) → SpellsNumber w z → spelled_number w ≡ Some z
spelled_so w z (ds, n, inl q) = ap spelled_number q.0 ∙ unsigned ds n ∙ ap Some (sym q.1)
spelled_so w z (ds, n, inr q) =
    let signed : spelled_number (45 ∷ ds) ≡ Some (neg_ℤ (pos (digits_value 10 ds))) = rw (is_numeral_so ds n) refl in
    ap spelled_number q.0 ∙ signed ∙ ap Some (sym q.1)

pub number_is : (w : List ℕ) (z : ℤ) → number_in w ≡ Some z → SpellsNumber w z × (fits z ≡ true)
number_is w z e = go (spelled_number w) refl e
  where
    ranged : (y : ℤ) → spelled_number w ≡ Some y → (b : Bool) → fits y ≡ b → cond b (Some y) None ≡ Some z → SpellsNumber w z × (fits z ≡ true)
    ranged y s true f e =
        let same : y ≡ z = cc in
        (spelled_is w z (s ∙ ap Some same), sym (ap fits same) ∙ f)
    ranged y s false f e = absurd (cc)

    go : (o : Option ℤ) → spelled_number w ≡ o → option_map_or (λ y. cond (fits y) (Some y) None) o None ≡ Some z → SpellsNumber w z × (fits z ≡ true)
    go (Some y) s e = ranged y s (fits y) refl e
    go None s e = absurd (cc)

pub number_so : (w : List ℕ) (z : ℤ) → SpellsNumber w z → fits z ≡ true → number_in w ≡ Some z
number_so w z s f = rw (spelled_so w z s) (rw f refl)

-- ---- the size of digits, as it is read from left to right

pub no_digits : (ds : List ℕ) → length ds ≡ 0 → is_numeral ds ≡ true → ⊥
no_digits [] none e = false≢true e
no_digits (c ∷ cs) none e = omega (arith, none)

pub some_digits : (ds : List ℕ) → 0 < length ds → list_all (λ d. nat_lt (digit_value d) 10) ds ≡ true → is_numeral ds ≡ true
some_digits [] some e = absurd (omega (arith, some))
some_digits (c ∷ cs) some e = e

numeral_all : (ds : List ℕ) → is_numeral ds ≡ true → list_all (λ d. nat_lt (digit_value d) 10) ds ≡ true
numeral_all [] e = refl
numeral_all (c ∷ cs) e = e

pub not_digit : (c : ℕ) → digit_value c < 10 → is_ascii_digit c ≡ false → ⊥
not_digit c h e =
    let r = digit_from_value c h in
    let digit : is_ascii_digit c ≡ true = grind (arith, nat_tests) in
    false≢true (sym e ∙ digit)

-- more digits make no smaller number
grows : (n : ℕ) (cs : List ℕ) → n ≤ digits_value_after 10 n cs
grows n [] = omega arith
grows n (c ∷ cs) = omega (arith, grows (n * 10 + digit_value c) cs)

module _ (ds : List ℕ) (i : ℕ) (within : i < length ds) where
  -- the byte at the loop's turn is a digit, where all are
  pub digit_here : list_all (λ d. nat_lt (digit_value d) 10) (drop i ds) ≡ list_all (λ d. nat_lt (digit_value d) 10) ds → is_numeral ds ≡ true → digit_value (get_or ds i 0) < 10
  digit_here same e =
      let all = sym (ap (list_all (λ d. nat_lt (digit_value d) 10)) (drop_more ds i 0 within)) ∙ same ∙ numeral_all ds e in
      below (get_or ds i 0) (and_parts (nat_lt (digit_value (get_or ds i 0)) 10) (list_all (λ d. nat_lt (digit_value d) 10) (drop (i + 1) ds)) all).0

  pub digits_go_on : digit_value (get_or ds i 0) < 10 → list_all (λ d. nat_lt (digit_value d) 10) (drop i ds) ≡ list_all (λ d. nat_lt (digit_value d) 10) ds → list_all (λ d. nat_lt (digit_value d) 10) (drop (i + 1) ds) ≡ list_all (λ d. nat_lt (digit_value d) 10) ds
  digits_go_on h same =
      sym (ap (λ b. b && list_all (λ d. nat_lt (digit_value d) 10) (drop (i + 1) ds)) (tested (get_or ds i 0) h)) ∙ sym (ap (list_all (λ d. nat_lt (digit_value d) 10)) (drop_more ds i 0 within)) ∙ same

  pub size_goes_on : (n m : ℕ) → m ≡ n * 10 + digit_value (get_or ds i 0) → digits_value_after 10 n (drop i ds) ≡ digits_value 10 ds → digits_value_after 10 m (drop (i + 1) ds) ≡ digits_value 10 ds
  size_goes_on n m e same =
      ap (λ k. digits_value_after 10 k (drop (i + 1) ds)) e ∙ sym (ap (digits_value_after 10 n) (drop_more ds i 0 within)) ∙ same

  pub size_so_far : (n : ℕ) → digits_value_after 10 n (drop i ds) ≡ digits_value 10 ds → n * 10 + digit_value (get_or ds i 0) ≤ digits_value 10 ds
  size_so_far n same =
      let m = n * 10 + digit_value (get_or ds i 0) in
      let rest : digits_value_after 10 m (drop (i + 1) ds) ≡ digits_value 10 ds = size_goes_on n m refl same in
      omega (arith, rest, grows m (drop (i + 1) ds))

-- ---- the number of a word, by the size of its digits

abbrev fitting : ℤ → Option ℤ
fitting z = cond (fits z) (Some z) None

fits_so : (z : ℤ) → FitsSigned w64 z → fits z ≡ true
fits_so (pos n) h = let l : n < 2 ^ 63 = h.sfits in grind (arith, nat_tests)
fits_so (negsuc n) h = let l : n < 2 ^ 63 = h.sfits in grind (arith, nat_tests)

fits_is : (z : ℤ) → fits z ≡ true → FitsSigned w64 z
fits_is (pos n) e = let l : n < 2 ^ 63 = grind (arith, nat_tests) in record { sfits = l }
fits_is (negsuc n) e = let l : n < 2 ^ 63 = grind (arith, nat_tests) in record { sfits = l }

fitted : (r : Option ℤ) (z : ℤ) → SomeIff r (FitsSigned w64 z) z → r ≡ fitting z
fitted (Some x) z h = ap Some h.1 ∙ sym (ap (λ b. cond b (Some z) None) (fits_so z h.0))
fitted None z h = go (fits z) refl
  where
    go : (b : Bool) → fits z ≡ b → None ≡ cond b (Some z) None
    go true e = absurd (h (fits_is z e))
    go false e = refl

-- the word spells the number, if these are digits
abbrev Spelled : List ℕ → List ℕ → ℤ → Type 0
Spelled w ds z = spelled_number w ≡ cond (is_numeral ds) (Some z) None

behind_minus : (w ds : List ℕ) → w ≡ 45 ∷ ds → Spelled w ds (neg_ℤ (pos (digits_value 10 ds)))
behind_minus w ds e = ap spelled_number e

without_minus : (w : List ℕ) → ((rest : List ℕ) → w ≡ 45 ∷ rest → ⊥) → Spelled w w (pos (digits_value 10 w))
without_minus [] none = refl
without_minus (c ∷ cs) none = go (c == 45) refl
  where
    go : (b : Bool) → (c == 45) ≡ b → cond b (cond (is_numeral cs) (Some (neg_ℤ (pos (digits_value 10 cs)))) None) (cond (is_numeral (c ∷ cs)) (Some (pos (digits_value 10 (c ∷ cs)))) None) ≡ cond (is_numeral (c ∷ cs)) (Some (pos (digits_value 10 (c ∷ cs)))) None
    go true s = absurd (none cs (ap (λ x. x ∷ cs) (minus c s)))
    go false s = refl

number_of : (w ds : List ℕ) (z : ℤ) (r : Option ℤ) → Spelled w ds z → is_numeral ds ≡ true → SomeIff r (FitsSigned w64 z) z → r ≡ number_in w
number_of w ds z r s m h =
    let one : cond (is_numeral ds) (Some z) None ≡ Some z = rw m refl in
    fitted r z h ∙ sym (ap (λ o. option_map_or fitting o None) (s ∙ one))

no_number : (w ds : List ℕ) (z : ℤ) → Spelled w ds z → (is_numeral ds ≡ true → fits z ≡ false) → None ≡ number_in w
no_number w ds z s large = go (is_numeral ds) refl s
  where
    go : (b : Bool) → is_numeral ds ≡ b → spelled_number w ≡ cond b (Some z) None → None ≡ number_in w
    go true m s = let none : fitting z ≡ None = rw (large m) refl in sym (ap (λ o. option_map_or fitting o None) s ∙ none)
    go false m s = sym (ap (λ o. option_map_or fitting o None) s)

pub negative : (w ds : List ℕ) (n : ℕ) (r : Option ℤ) → w ≡ 45 ∷ ds → (is_numeral ds ≡ true) × (n ≡ digits_value 10 ds) → SomeIff r (FitsSigned w64 (pos 0 -ℤ pos n)) (pos 0 -ℤ pos n) → r ≡ number_in w
negative w ds n r e f h =
    let same : neg_ℤ (pos n) ≡ pos 0 -ℤ pos n = omega (arith, ints) in
    let number : neg_ℤ (pos (digits_value 10 ds)) ≡ pos 0 -ℤ pos n = ap (λ k. neg_ℤ (pos k)) (sym f.1) ∙ same in
    number_of w ds (pos 0 -ℤ pos n) r (behind_minus w ds e ∙ ap (λ z. cond (is_numeral ds) (Some z) None) number) f.0 h

pub too_negative : (w ds : List ℕ) → w ≡ 45 ∷ ds → (is_numeral ds ≡ true → 2 ^ 64 ≤ digits_value 10 ds) → None ≡ number_in w
too_negative w ds e large = no_number w ds (neg_ℤ (pos (digits_value 10 ds))) (behind_minus w ds e) (λ m. unfit (digits_value 10 ds) (large m))
  where
    unfit : (n : ℕ) → 2 ^ 64 ≤ n → fits (neg_ℤ (pos n)) ≡ false
    unfit zero l = absurd (omega (arith, l))
    unfit (suc n) l = grind (arith, nat_tests)

pub positive : (w : List ℕ) (n : ℕ) (r : Option ℤ) → ((rest : List ℕ) → w ≡ 45 ∷ rest → ⊥) → (is_numeral w ≡ true) × (n ≡ digits_value 10 w) → SomeIff r (FitsSigned w64 (pos 0 +ℤ pos n)) (pos 0 +ℤ pos n) → r ≡ number_in w
positive w n r none f h =
    let same : pos n ≡ pos 0 +ℤ pos n = omega (arith, ints) in
    let number : pos (digits_value 10 w) ≡ pos 0 +ℤ pos n = ap pos (sym f.1) ∙ same in
    number_of w w (pos 0 +ℤ pos n) r (without_minus w none ∙ ap (λ z. cond (is_numeral w) (Some z) None) number) f.0 h

pub too_positive : (w : List ℕ) → ((rest : List ℕ) → w ≡ 45 ∷ rest → ⊥) → (is_numeral w ≡ true → 2 ^ 64 ≤ digits_value 10 w) → None ≡ number_in w
too_positive w none large = no_number w w (pos (digits_value 10 w)) (without_minus w none) (λ m. unfit (digits_value 10 w) (large m))
  where
    unfit : (n : ℕ) → 2 ^ 64 ≤ n → fits (pos n) ≡ false
    unfit n l = grind (arith, nat_tests)

-- a number is no name
digit_first : (ds : List ℕ) → IsNumeral 10 ds → begins_with_letter ds ≡ false
digit_first [] h = absurd (omega (arith, h.0))
digit_first (c ∷ cs) h = let r = digit_from_value c h.1.0 in grind (arith, nat_tests)

pub number_first : (w : List ℕ) (z : ℤ) → SpellsNumber w z → begins_with_letter w ≡ false
number_first w z (ds, n, inl q) = ap begins_with_letter q.0 ∙ digit_first ds n
number_first w z (ds, n, inr q) = ap begins_with_letter q.0
