-- What a token's text begins with, and what it writes.
use Rattle.std.proofs.Common.{◌≡◌, ℕ, ◌≤◌, ◌<◌, true, false, ◌&&◌, not, nat_le, List, [], ◌∷◌, ◌++◌, length, get_or, refl, sym, ap, ◌∙◌, ⊎_elim, arith}
use Rattle.std.specs.List.{list_all}
use Rattle.std.proofs.lemmas.Bool.{and_parts, and_from, or_cases, both_ways, leb-true, le-leb, not-true, not_from_false, false_from_ne_true, false≢true}
use Rattle.ioa_value.specs.declared.limits.TheConstants.{LIMITS}
use Rattle.ioa_value.specs.Names.{begins_with_letter, is_name, is_reserved, is_letter, is_digit, is_word_byte, IsName}
use Rattle.ioa_value.specs.Spelling.{spelling_of, IsReserved}
use Rattle.ioa_lex.specs.Tokens.{Tok, number, name, terminal}
use Rattle.ioa_lex.specs.Lexing.{is_word, is_digits, value_of, IsTokenText, by_word, by_digits, by_terminal, Writes}
use Rattle.ioa_lex.specs.Fronts.{is_sign_part}
use Rattle.ioa_lex.proofs.Bytes.{is_inner, is_first, part_of_letter, first_of_letter, first_of_digit, digit_of_letter, inner_of_part, inner_of_digit, IsSignPart, sign_part}
use Rattle.ioa_value.proofs.Spellings.{same_terminal, is_short, no_name, reserved_word}
use Rattle.ioa_value.proofs.ItemLemmas.{all_weaker}
use Rattle.ioa_lex.proofs.Spellings.{is_sign, word_or_sign}

abbrev pub head : List ℕ → ℕ
head bs = get_or bs 0 0

-- a list of at least one byte, by its first
pub head_of_front : (v rest text : List ℕ) → text ≡ v ++ rest → 0 < length v → head v ≡ head text
head_of_front [] rest text e h = absurd (omega arith)
head_of_front (b ∷ v) rest text e h = rw e refl

pub record IsWordText (w : List ℕ) : Type 0 where
  pub some : 0 < length w
  pub letter : is_letter (head w) ≡ true
  pub parts : list_all is_word_byte w ≡ true

pub word_text : (w : List ℕ) → is_word w ≡ true → IsWordText w
word_text [] h = absurd (false≢true h)
word_text (b ∷ bs) h =
    let k = and_parts (is_letter b) (list_all is_word_byte bs) h in
    record { some = omega arith; letter = k.0; parts = and_from (is_word_byte b) (list_all is_word_byte bs) (part_of_letter b k.0) k.1 }

pub record IsDigitsText (w : List ℕ) : Type 0 where
  pub some : 0 < length w
  pub digit : is_digit (head w) ≡ true
  pub parts : list_all is_digit w ≡ true

pub digits_text : (w : List ℕ) → is_digits w ≡ true → IsDigitsText w
digits_text [] h = absurd (false≢true h)
digits_text (b ∷ bs) h =
    let k = and_parts (is_digit b) (list_all is_digit bs) h in
    record { some = omega arith; digit = k.0; parts = h }

pub record IsSignText (w : List ℕ) : Type 0 where
  pub some : 0 < length w
  pub sign : IsSignPart (head w)
  pub parts : list_all is_sign_part w ≡ true
  pub short : length w ≤ 2

pub sign_text : (w : List ℕ) → is_sign w ≡ true → IsSignText w
sign_text [] h = absurd (false≢true h)
sign_text (b ∷ bs) h =
    let k = and_parts (list_all is_sign_part (b ∷ bs)) (nat_le (length (b ∷ bs)) 2) h in
    let f = and_parts (is_sign_part b) (list_all is_sign_part bs) k.0 in
    record { some = omega arith; sign = sign_part b f.0; parts = k.0; short = leb-true (length (b ∷ bs)) 2 k.1 }

-- the three kinds of text
pub data TextKind (w : List ℕ) : Type 0 where
  of_word : IsWordText w → TextKind w
  of_digits : IsDigitsText w → TextKind w
  of_sign : IsSignText w → IsReserved w → TextKind w

pub text_kind : (w : List ℕ) → IsTokenText w → TextKind w
text_kind w (by_word h) = of_word (word_text w h)
text_kind w (by_digits h) = of_digits (digits_text w h)
text_kind w (by_terminal r) =
    ⊎_elim (λ h. of_word (word_text w (ap is_word r.1 ∙ h))) (λ h. of_sign (sign_text w (ap is_sign r.1 ∙ h)) r) (or_cases (is_word (spelling_of r.0)) (is_sign (spelling_of r.0)) (word_or_sign r.0))

pub text_some : (w : List ℕ) → IsTokenText w → 0 < length w
text_some w h = elim (text_kind w h) [ of_word k ↦ k.some | of_digits k ↦ k.some | of_sign k r ↦ k.some ]

pub text_first : (w : List ℕ) → IsTokenText w → is_first (head w) ≡ true
text_first w h = elim (text_kind w h) [ of_word k ↦ first_of_letter (head w) k.letter | of_digits k ↦ first_of_digit (head w) k.digit | of_sign k r ↦ k.sign.first ]

pub text_inner : (w : List ℕ) → IsTokenText w → list_all is_inner w ≡ true
text_inner w h = elim (text_kind w h) [
  | of_word k ↦ all_weaker is_word_byte is_inner inner_of_part w k.parts
  | of_digits k ↦ all_weaker is_digit is_inner inner_of_digit w k.parts
  | of_sign k r ↦ all_weaker is_sign_part is_inner (λ b p. (sign_part b p).inner) w k.parts
]

-- the kind by the first byte
pub text_of_letter : (w : List ℕ) → IsTokenText w → is_letter (head w) ≡ true → IsWordText w
text_of_letter w h l = elim (text_kind w h) [
  | of_word k ↦ k
  | of_digits k ↦ absurd (both_ways (is_digit (head w)) (digit_of_letter (head w) l) k.digit)
  | of_sign k r ↦ absurd (both_ways (is_letter (head w)) k.sign.letter l)
]

pub text_of_digit : (w : List ℕ) → IsTokenText w → is_digit (head w) ≡ true → IsDigitsText w
text_of_digit w h d = elim (text_kind w h) [
  | of_word k ↦ absurd (both_ways (is_digit (head w)) (digit_of_letter (head w) k.letter) d)
  | of_digits k ↦ k
  | of_sign k r ↦ absurd (both_ways (is_digit (head w)) k.sign.digit d)
]

pub text_of_sign : (w : List ℕ) → IsTokenText w → is_sign_part (head w) ≡ true → IsSignText w × IsReserved w
text_of_sign w h s = let p = sign_part (head w) s in elim (text_kind w h) [
  | of_word k ↦ absurd (both_ways (is_letter (head w)) p.letter k.letter)
  | of_digits k ↦ absurd (both_ways (is_digit (head w)) p.digit k.digit)
  | of_sign k r ↦ (k, r)
]

-- a name, by its parts
pub record NameParts (w : List ℕ) : Type 0 where
  pub first : begins_with_letter w ≡ true
  pub parts : list_all is_word_byte w ≡ true
  pub short : nat_le (length w) LIMITS.name ≡ true
  pub free : is_reserved w ≡ false

name_parts : (w : List ℕ) → IsName w → NameParts w
unfolding is_name
name_parts w h =
    let a = and_parts (begins_with_letter w && list_all is_word_byte w && nat_le (length w) LIMITS.name) (not (is_reserved w)) h in
    let b = and_parts (begins_with_letter w && list_all is_word_byte w) (nat_le (length w) LIMITS.name) a.0 in
    let c = and_parts (begins_with_letter w) (list_all is_word_byte w) b.0 in
    record { first = c.0; parts = c.1; short = b.1; free = not-true (is_reserved w) a.1 }

word_of_name : (w : List ℕ) → IsName w → is_word w ≡ true
word_of_name [] h = absurd (false≢true (name_parts [] h).first)
word_of_name (b ∷ bs) h =
    let k = name_parts (b ∷ bs) h in
    and_from (is_letter b) (list_all is_word_byte bs) k.first (and_parts (is_word_byte b) (list_all is_word_byte bs) k.parts).1

name_short : (w : List ℕ) → IsName w → length w ≤ LIMITS.name
name_short w h = leb-true (length w) LIMITS.name (name_parts w h).short

name_not_reserved : (w : List ℕ) → IsName w → IsReserved w → ⊥
name_not_reserved w h r = both_ways (is_name w) (ap is_name r.1 ∙ no_name r.0) h

pub name_of_word : (w : List ℕ) → is_word w ≡ true → length w ≤ LIMITS.name → ¬ (IsReserved w) → IsName w
unfolding is_name
name_of_word [] h short free = absurd (false≢true h)
name_of_word (b ∷ bs) h short free =
    let w = b ∷ bs in
    let k = and_parts (is_letter b) (list_all is_word_byte bs) h in
    let parts : list_all is_word_byte w ≡ true = and_from (is_word_byte b) (list_all is_word_byte bs) (part_of_letter b k.0) k.1 in
    let small : nat_le (length w) LIMITS.name ≡ true = le-leb (length w) LIMITS.name short in
    let other : not (is_reserved w) ≡ true = not_from_false (is_reserved w) (false_from_ne_true (is_reserved w) (λ yes'. free (reserved_word w yes'))) in
    and_from (is_letter b && list_all is_word_byte w && nat_le (length w) LIMITS.name) (not (is_reserved w)) (and_from (is_letter b && list_all is_word_byte w) (nat_le (length w) LIMITS.name) (and_from (is_letter b) (list_all is_word_byte w) k.0 parts) small) other

-- what a token is written as is a token's text
pub text_of_token : (w : List ℕ) (t : Tok) → Writes w t → IsTokenText w
text_of_token w (number n) h = by_digits h.0
text_of_token w (name s) h = by_word (word_of_name w h.1)
text_of_token w (terminal t) h = by_terminal (t, h)

-- a text writes one token at most
pub digits_no_word : (w : List ℕ) → is_digits w ≡ true → is_word w ≡ true → ⊥
digits_no_word w d h =
    let k = word_text w h in
    both_ways (is_digit (head w)) (digit_of_letter (head w) k.letter) (digits_text w d).digit

pub digits_no_terminal : (w : List ℕ) → is_digits w ≡ true → IsReserved w → ⊥
digits_no_terminal w d r =
    ⊎_elim (λ h. digits_no_word w d (ap is_word r.1 ∙ h)) (λ h. both_ways (is_digit (head w)) (sign_text w (ap is_sign r.1 ∙ h)).sign.digit (digits_text w d).digit) (or_cases (is_word (spelling_of r.0)) (is_sign (spelling_of r.0)) (word_or_sign r.0))

pub same_token : (w : List ℕ) (t u : Tok) → Writes w t → Writes w u → t ≡ u
same_token w (number m) (number n) h k = ap number (h.1 ∙ sym k.1)
same_token w (number m) (name s) h k = absurd (digits_no_word w h.0 (word_of_name w k.1))
same_token w (number m) (terminal t) h k = absurd (digits_no_terminal w h.0 (t, k))
same_token w (name s) (number n) h k = absurd (digits_no_word w k.0 (word_of_name w h.1))
same_token w (name s) (name r) h k = ap name (h.0 ∙ sym k.0)
same_token w (name s) (terminal t) h k = absurd (name_not_reserved w h.1 (t, k))
same_token w (terminal t) (number n) h k = absurd (digits_no_terminal w k.0 (t, h))
same_token w (terminal t) (name s) h k = absurd (name_not_reserved w k.1 (t, h))
same_token w (terminal t) (terminal u) h k = ap terminal (same_terminal t u (sym h ∙ k))

pub token_of_word : (w : List ℕ) (t : Tok) → is_word w ≡ true → Writes w t → length w ≤ LIMITS.name
token_of_word w (number n) h k = absurd (digits_no_word w k.0 h)
token_of_word w (name s) h k = name_short w k.1
token_of_word w (terminal t) h k = rw k (leb-true (length (spelling_of t)) LIMITS.name (is_short t))

pub token_of_digits : (w : List ℕ) (t : Tok) → is_digits w ≡ true → Writes w t → value_of w ≤ 9223372036854775807
token_of_digits w (number n) h k = omega (arith, k.1, k.2)
token_of_digits w (name s) h k = absurd (digits_no_word w h (word_of_name w k.1))
token_of_digits w (terminal t) h k = absurd (digits_no_terminal w h (t, k))

-- two fronts of one length are one
pub same_front : (v w r s : List ℕ) → v ++ r ≡ w ++ s → length v ≡ length w → (v ≡ w) × (r ≡ s)
same_front [] [] r s e h = (refl, e)
same_front [] (b ∷ w) r s e h = absurd (omega arith)
same_front (b ∷ v) [] r s e h = absurd (omega arith)
same_front (b ∷ v) (c ∷ w) r s e h =
    let rest : v ++ r ≡ w ++ s = cc in
    let size : length v ≡ length w = omega arith in
    let k = same_front v w r s rest size in
    let first : b ≡ c = cc in
    let bytes : v ≡ w = k.0 in
    (cc, k.1)
