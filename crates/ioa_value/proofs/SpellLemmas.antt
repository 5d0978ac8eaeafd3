-- Numbers and names are words.
use Rattle.std.proofs.Common.{◌≡◌, ℕ, ◌<◌, ◌≤◌, Bool, true, false, ◌&&◌, not, nat_le, ℤ, pos, neg_ℤ, List, [], ◌∷◌, length, IsUtf8, IsAscii, refl, sym, ap, subst, ◌∙◌, arith, inl, inr}
use Rattle.std.specs.List.{list_all}
use Rattle.std.specs.Str.Parse.{AllDigits, digits_value}
use Rattle.std.proofs.lemmas.Str.Parse.{digit_from_value}
use Rattle.std.proofs.lemmas.Str.{IsUtf8-from_ascii}
use Rattle.std.proofs.lemmas.Str.Ascii.{IsAscii-nil, IsAscii-cons}
use Rattle.std.proofs.lemmas.Bool.Decides.{nat_tests}
use Rattle.ioa_value.specs.Names.{IsName, is_name, is_reserved, is_word_byte, begins_with_letter}
use Rattle.ioa_value.specs.Reads.{SpellsNumber}
use Rattle.ioa_value.specs.Tokens.{is_inside}
use Rattle.ioa_value.proofs.TokenLemmas.{IsWord}
use Rattle.std.proofs.lemmas.Bool.{and_parts}

digit_inside : (c : ℕ) → 48 ≤ c → c ≤ 57 → is_inside c ≡ true
digit_inside c l h = grind (arith, nat_tests)

digits_inside : (ds : List ℕ) → AllDigits 10 ds → list_all is_inside ds ≡ true
digits_inside [] h = refl
digits_inside (c ∷ cs) h =
    let r = digit_from_value c h.0 in
    rw (digit_inside c r.0 r.1) (digits_inside cs h.1)

pub number_is_word : (w : List ℕ) (z : ℤ) → SpellsNumber w z → IsWord w
number_is_word w z (ds, n, inl q) = subst IsWord (sym q.0) (record { long = n.0; inside = digits_inside ds n.1 })
number_is_word w z (ds, n, inr q) = subst IsWord (sym q.0) (record { long = omega arith; inside = digits_inside ds n.1 })

word_byte_inside : (c : ℕ) → is_word_byte c ≡ true → is_inside c ≡ true
word_byte_inside c h = grind (arith, nat_tests)

word_bytes_inside : (w : List ℕ) → list_all is_word_byte w ≡ true → list_all is_inside w ≡ true
word_bytes_inside [] h = refl
word_bytes_inside (c ∷ cs) h =
    let p = and_parts (is_word_byte c) (list_all is_word_byte cs) h in
    rw (word_byte_inside c p.0) (word_bytes_inside cs p.1)

begun : (w : List ℕ) → begins_with_letter w ≡ true → 0 < length w
begun [] h = absurd (cc)
begun (c ∷ cs) h = omega arith

two : (a b c d : Bool) → a && b && c && d ≡ true → (a ≡ true) × (b ≡ true)
two true true c d e = (refl, refl)
two true false c d e = absurd (cc)
two false b c d e = absurd (cc)

pub name_is_word : (w : List ℕ) → IsName w → IsWord w
unfolding is_name
name_is_word w h =
    let p = two (begins_with_letter w) (list_all is_word_byte w) (nat_le (length w) 64) (not (is_reserved w)) h in
    record { long = begun w p.0; inside = word_bytes_inside w p.1 }

-- a digit is no sign
unsigned : (ds es : List ℕ) → AllDigits 10 ds → ds ≡ 45 ∷ es → ⊥
unsigned [] es h e = cc
unsigned (c ∷ cs) es h e =
    let r = digit_from_value c h.0 in
    let k : c ≡ 45 = cc in
    omega arith

pub number_once : (w : List ℕ) (y z : ℤ) → SpellsNumber w y → SpellsNumber w z → y ≡ z
number_once w y z (ds, m, inl p) (es, n, inl q) =
    p.1 ∙ ap (λ l. pos (digits_value 10 l)) (sym p.0 ∙ q.0) ∙ sym q.1
number_once w y z (ds, m, inr p) (es, n, inr q) =
    let e : ds ≡ es = cc in
    p.1 ∙ ap (λ l. neg_ℤ (pos (digits_value 10 l))) e ∙ sym q.1
number_once w y z (ds, m, inl p) (es, n, inr q) = absurd (unsigned ds es m.1 (sym p.0 ∙ q.0))
number_once w y z (ds, m, inr p) (es, n, inl q) = absurd (unsigned es ds n.1 (sym q.0 ∙ p.0))

pub word_byte_ascii : (c : ℕ) → is_word_byte c ≡ true → c < 128
word_byte_ascii c h = grind (arith, nat_tests)

word_bytes_ascii : (w : List ℕ) → list_all is_word_byte w ≡ true → IsAscii w
word_bytes_ascii [] h = IsAscii-nil
word_bytes_ascii (c ∷ cs) h =
    let p = and_parts (is_word_byte c) (list_all is_word_byte cs) h in
    IsAscii-cons c cs (word_byte_ascii c p.0) (word_bytes_ascii cs p.1)

pub name_is_text : (w : List ℕ) → IsName w → IsUtf8 w
unfolding is_name
name_is_text w h =
    let p = two (begins_with_letter w) (list_all is_word_byte w) (nat_le (length w) 64) (not (is_reserved w)) h in
    IsUtf8-from_ascii w (word_bytes_ascii w p.1)

pub begins_name : (w : List ℕ) → IsName w → begins_with_letter w ≡ true
unfolding is_name
begins_name w h = (two (begins_with_letter w) (list_all is_word_byte w) (nat_le (length w) 64) (not (is_reserved w)) h).0
