-- Classes of bytes, and lists whose bytes all have one.
use Rattle.std.proofs.Common.{◌≡◌, ℕ, zero, suc, ◌≤◌, ◌<◌, Bool, true, false, ◌&&◌, not, eqb, List, [], ◌∷◌, ◌++◌, length, take, get_or, count_by, refl, sym, ap, ◌∙◌, ⊎_elim, arith}
use Rattle.std.specs.List.{list_all, prefix_len}
use Rattle.std.proofs.lemmas.Bool.{and_parts, and_from, cases_Bool}
use Rattle.std.proofs.lemmas.Bool.Decides.{nat_tests}
use Rattle.std.proofs.lemmas.List.Folds.{list_all-append}
use Rattle.std.proofs.lemmas.List.Sums.{take_while-cons}
use Rattle.ioa_value.specs.Names.{is_letter, is_digit, is_word_byte}
use Rattle.ioa_value.proofs.SpellLemmas.{word_byte_ascii}
use Rattle.ioa_lex.specs.Lexing.{is_blank}
use Rattle.ioa_lex.specs.Fronts.{is_sign_part}

-- a byte that stands in a token
abbrev pub is_inner : ℕ → Bool
is_inner b = not (is_blank b)

-- neither a blank nor `%`
abbrev pub is_first : ℕ → Bool
is_first b = not (is_blank b) && not (eqb b 37)

pub part_of_letter : (b : ℕ) → is_letter b ≡ true → is_word_byte b ≡ true
part_of_letter b h = grind (arith, nat_tests)

pub first_of_letter : (b : ℕ) → is_letter b ≡ true → is_first b ≡ true
first_of_letter b h = grind (arith, nat_tests)

pub first_of_digit : (b : ℕ) → is_digit b ≡ true → is_first b ≡ true
first_of_digit b h = grind (arith, nat_tests)

pub digit_of_letter : (b : ℕ) → is_letter b ≡ true → is_digit b ≡ false
digit_of_letter b h = grind (arith, nat_tests)

pub inner_of_part : (b : ℕ) → is_word_byte b ≡ true → is_inner b ≡ true
inner_of_part b h = grind (arith, nat_tests)

pub inner_of_digit : (b : ℕ) → is_digit b ≡ true → is_inner b ≡ true
inner_of_digit b h = grind (arith, nat_tests)

-- what a byte is that a sign begins with
pub record IsSignPart (b : ℕ) : Type 0 where
  pub inner : is_inner b ≡ true
  pub first : is_first b ≡ true
  pub letter : is_letter b ≡ false
  pub digit : is_digit b ≡ false

pub sign_part : (b : ℕ) → is_sign_part b ≡ true → IsSignPart b
sign_part b h = record {
  inner = grind (arith, nat_tests);
  first = grind (arith, nat_tests);
  letter = grind (arith, nat_tests);
  digit = grind (arith, nat_tests);
}

pub all_of_front : (p : ℕ → Bool) (a b : List ℕ) → list_all p (a ++ b) ≡ true → (list_all p a ≡ true) × (list_all p b ≡ true)
all_of_front p a b h = and_parts (list_all p a) (list_all p b) (sym (list_all-append p a b) ∙ h)

-- the longest front that passes
pub all_of_prefix : (p : ℕ → Bool) (bs : List ℕ) → list_all p (take (prefix_len p bs) bs) ≡ true
all_of_prefix p [] = refl
all_of_prefix p (b ∷ bs) =
    ap (list_all p) (take_while-cons p b bs)
    ∙ ⊎_elim (λ yes. rw yes (and_from (p b) (list_all p (take (prefix_len p bs) bs)) yes (all_of_prefix p bs))) (λ no. rw no refl) (cases_Bool (p b))

pub prefix_longest : (p : ℕ → Bool) (a rest : List ℕ) → list_all p a ≡ true → length a ≤ prefix_len p (a ++ rest)
prefix_longest p [] rest h = omega arith
prefix_longest p (b ∷ a) rest h =
    let k = and_parts (p b) (list_all p a) h in
    let more = prefix_longest p a rest k.1 in
    rw k.0 (omega arith)

pub none_counted : (p q : ℕ → Bool) → ((b : ℕ) → q b ≡ true → p b ≡ false) → (bs : List ℕ) → list_all q bs ≡ true → count_by p bs ≡ 0
none_counted p q each [] h = refl
none_counted p q each (b ∷ bs) h =
    let k = and_parts (q b) (list_all q bs) h in
    rw (each b k.0) (none_counted p q each bs k.1)

pub ascii_of_parts : (bs : List ℕ) → list_all is_word_byte bs ≡ true → (i : ℕ) → get_or bs i 0 < 128
ascii_of_parts [] h i = omega arith
ascii_of_parts (b ∷ bs) h zero = word_byte_ascii b (and_parts (is_word_byte b) (list_all is_word_byte bs) h).0
ascii_of_parts (b ∷ bs) h (suc i) = ascii_of_parts bs (and_parts (is_word_byte b) (list_all is_word_byte bs) h).1 i
