-- What a word of digits spells.
use Rattle.std.proofs.Common.{◌≡◌, ◌≢◌, ℕ, ◌<◌, ◌≤◌, ◌-◌, ◌^◌, ◌==◌, Bool, true, false, cond, ◌&&◌, not, nat_le, List, [], ◌∷◌, length, get_or, Some, None, Result, Ok, Err, refl, sym, ap, ◌∙◌, arith, IsUtf8, subst}
use Rattle.std.specs.Str.{all_ascii_digits}
use Rattle.std.specs.Str.Parse.{digits_value, ParsesUnsigned}
use Rattle.std.proofs.lemmas.Bool.{false≢true}
use Rattle.std.proofs.lemmas.Bool.Decides.{nat_tests}
use Rattle.std.proofs.lemmas.Str.{IsUtf8-from_ascii}
use Rattle.std.proofs.lemmas.Str.Parse.{IsNumeralModel, numerals_by_value, parse_plain, tells_all_ascii_digits}
use Rattle.std.proofs.lemmas.Fmt.{IsAscii-from_digits}
use Rattle.ioa_request.specs.Numerals.{numeral_in}

AreDigits : List ℕ → Type 0
AreDigits w = all_ascii_digits w ≡ true

digits : IsNumeralModel (λ w. all_ascii_digits w ≡ true) (digits_value 10)
digits = numerals_by_value (λ w. all_ascii_digits w ≡ true) tells_all_ascii_digits

-- where one of three tests fails
none_of : (a b c : Bool) (n : ℕ) → (a ≡ true → b ≡ true → c ≡ true → ⊥) → cond (a && b && c) (Some n) None ≡ None
none_of true true true n h = absurd (h refl refl refl)
none_of true true false n h = refl
none_of true false true n h = refl
none_of true false false n h = refl
none_of false true true n h = refl
none_of false true false n h = refl
none_of false false true n h = refl
none_of false false false n h = refl

some_of : (a b c : Bool) (n : ℕ) → a ≡ true → b ≡ true → c ≡ true → cond (a && b && c) (Some n) None ≡ Some n
some_of a b c n x y z = rw x (rw y (rw z refl))

-- what is no text is no number
pub no_text : (most : ℕ) (w : List ℕ) → (IsUtf8 w → ⊥) → None ≡ numeral_in most w
no_text most w none =
    sym (none_of (not (length w == 0)) (all_ascii_digits w) (nat_le (digits_value 10 w) most) (digits_value 10 w)
    (λ a b c. none (IsUtf8-from_ascii w (IsAscii-from_digits w (digits.to w b)))))

pub empty_is_none : (most : ℕ) (w : List ℕ) → length w ≡ 0 → None ≡ numeral_in most w
empty_is_none most w e =
    sym (none_of (not (length w == 0)) (all_ascii_digits w) (nat_le (digits_value 10 w) most) (digits_value 10 w)
    (λ a b c. let z : not (length w == 0) ≡ false = rw e refl in false≢true (sym z ∙ a)))

pub signed_is_none : (most : ℕ) (w : List ℕ) → get_or w 0 0 ≡ 43 → None ≡ numeral_in most w
signed_is_none most [] e = refl
signed_is_none most (x ∷ xs) e =
    let k : x ≡ 43 = e in
    let z : all_ascii_digits (x ∷ xs) ≡ false = rw k refl in
    sym (none_of (not (length (x ∷ xs) == 0)) (all_ascii_digits (x ∷ xs)) (nat_le (digits_value 10 (x ∷ xs)) most) (digits_value 10 (x ∷ xs))
    (λ a b c. false≢true (sym z ∙ b)))

le_so : (m n : ℕ) → m ≤ n → nat_le m n ≡ true
le_so m n h = grind (arith, nat_tests)

so_le : (m n : ℕ) → nat_le m n ≡ true → m ≤ n
so_le m n h = grind (arith, nat_tests)

filled : (w : List ℕ) → 0 < length w → not (length w == 0) ≡ true
filled w h = grind (arith, nat_tests)

so_filled : (w : List ℕ) → not (length w == 0) ≡ true → 0 < length w
so_filled w h = grind (arith, nat_tests)

-- what is parsed is spelled
pub parsed : (E : Type 0) (w : List ℕ) (n : ℕ) → ParsesUnsigned {E = E} 64 10 w (Ok n) → get_or w 0 0 ≢ 43 → Some n ≡ numeral_in (2 ^ 64 - 1) w
parsed E w n h plain =
    let k = parse_plain digits {E = E} 64 w (Ok n) h plain in
    let le : digits_value 10 w ≤ 2 ^ 64 - 1 = omega (arith, k.0.2) in
    ap Some k.1
    ∙ sym (some_of (not (length w == 0)) (all_ascii_digits w) (nat_le (digits_value 10 w) (2 ^ 64 - 1)) (digits_value 10 w) (filled w k.0.1) k.0.0 (le_so _ _ le))

pub unparsed : (E : Type 0) (w : List ℕ) (e : E) → ParsesUnsigned {E = E} 64 10 w (Err e) → get_or w 0 0 ≢ 43 → None ≡ numeral_in (2 ^ 64 - 1) w
unparsed E w e h plain =
    let k = parse_plain digits {E = E} 64 w (Err e) h plain in
    sym (none_of (not (length w == 0)) (all_ascii_digits w) (nat_le (digits_value 10 w) (2 ^ 64 - 1)) (digits_value 10 w)
    (λ a b c. k (b, so_filled w a, omega (arith, so_le _ _ c))))

pub parsed_at : {E : Type 0} (w d : List ℕ) (r : Result ℕ E) (n : ℕ) → d ≡ w → r ≡ Ok n → ParsesUnsigned 64 10 d r → get_or w 0 0 ≢ 43 → Some n ≡ numeral_in (2 ^ 64 - 1) w
parsed_at {E} w d r n same is h plain = parsed E w n (subst (λ x. ParsesUnsigned {E = E} 64 10 w x) is (subst (λ d. ParsesUnsigned {E = E} 64 10 d r) same h)) plain

pub unparsed_at : {E : Type 0} (w d : List ℕ) (r : Result ℕ E) (e : E) → d ≡ w → r ≡ Err e → ParsesUnsigned 64 10 d r → get_or w 0 0 ≢ 43 → None ≡ numeral_in (2 ^ 64 - 1) w
unparsed_at {E} w d r e same is h plain = unparsed E w e (subst (λ x. ParsesUnsigned {E = E} 64 10 w x) is (subst (λ d. ParsesUnsigned {E = E} 64 10 d r) same h)) plain

some_parts : (a b c : Bool) (v n : ℕ) → Some n ≡ cond (a && b && c) (Some v) None → (a ≡ true) × (b ≡ true) × (c ≡ true) × (n ≡ v)
some_parts true true true v n e = (refl, refl, refl, cc)
some_parts true true false v n e = absurd (cc)
some_parts true false true v n e = absurd (cc)
some_parts true false false v n e = absurd (cc)
some_parts false true true v n e = absurd (cc)
some_parts false true false v n e = absurd (cc)
some_parts false false true v n e = absurd (cc)
some_parts false false false v n e = absurd (cc)

-- what is read up to a greater number
pub within : (low high : ℕ) (w : List ℕ) (n : ℕ) → Some n ≡ numeral_in high w → n ≤ low → Some n ≡ numeral_in low w
within low high w n e le =
    let p = some_parts (not (length w == 0)) (all_ascii_digits w) (nat_le (digits_value 10 w) high) (digits_value 10 w) n e in
    ap Some p.3
    ∙ sym (some_of (not (length w == 0)) (all_ascii_digits w) (nat_le (digits_value 10 w) low) (digits_value 10 w) p.0 p.1 (le_so _ _ (omega (arith, p.3))))

pub past : (low high : ℕ) (w : List ℕ) (n : ℕ) → Some n ≡ numeral_in high w → (n ≤ low → ⊥) → None ≡ numeral_in low w
past low high w n e gt =
    let p = some_parts (not (length w == 0)) (all_ascii_digits w) (nat_le (digits_value 10 w) high) (digits_value 10 w) n e in
    sym (none_of (not (length w == 0)) (all_ascii_digits w) (nat_le (digits_value 10 w) low) (digits_value 10 w) (λ a b c. gt (omega (arith, p.3, so_le _ _ c))))

-- nor is what is not read up to a greater number
pub still_none : (low high : ℕ) (w : List ℕ) → low ≤ high → None ≡ numeral_in high w → None ≡ numeral_in low w
still_none low high w le e =
    sym (none_of (not (length w == 0)) (all_ascii_digits w) (nat_le (digits_value 10 w) low) (digits_value 10 w)
    (λ a b c.
    let s = some_of (not (length w == 0)) (all_ascii_digits w) (nat_le (digits_value 10 w) high) (digits_value 10 w) a b (le_so _ _ (omega (arith, le, so_le _ _ c))) in
    let z : None ≡ Some (digits_value 10 w) = e ∙ s in cc))
