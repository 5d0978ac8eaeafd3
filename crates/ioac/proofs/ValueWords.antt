-- The words of a text, one after the other.
use Rattle.std.proofs.Common.{◌≡◌, ℕ, ◌+◌, ◌<◌, ◌≤◌, Bool, true, false, not, List, [], ◌∷◌, length, take, drop, find, Some, None, IsAscii, IsUtf8, refl, sym, ap, subst, ◌∙◌, arith, ⊎_elim}
use Rattle.std.specs.List.{list_all, onto_first, position_or_len}
use Rattle.std.proofs.lemmas.Bool.{and_parts, cases_Bool, cases_lt}
use Rattle.std.proofs.lemmas.Bool.Decides.{nat_tests}
use Rattle.std.proofs.lemmas.List.Splits.{slice_split_first}
use Rattle.std.proofs.lemmas.List.Sums.{take_while-cons}
use Rattle.std.proofs.lemmas.Str.{IsUtf8-from_ascii}
use Rattle.std.proofs.lemmas.Str.Ascii.{IsAscii-nil, IsAscii-cons}
use Rattle.ioa_value.specs.Names.{is_word_byte}
use Rattle.ioac.specs.Unknown.{is_between, words_of}

-- a word is a text
word_byte_ascii : (b : ℕ) → is_word_byte b ≡ true → b < 128
word_byte_ascii b h = grind (arith, nat_tests)

word_ascii : (word : List ℕ) → list_all is_word_byte word ≡ true → IsAscii word
word_ascii [] h = IsAscii-nil
word_ascii (b ∷ bs) h =
    let p = and_parts (is_word_byte b) (list_all is_word_byte bs) h in
    IsAscii-cons b bs (word_byte_ascii b p.0) (word_ascii bs p.1)

pub word_is_text : (word : List ℕ) → list_all is_word_byte word ≡ true → IsUtf8 word
word_is_text word h = IsUtf8-from_ascii word (word_ascii word h)

-- the first word has no byte that is in none
abbrev is_within : ℕ → Bool
is_within b = not (is_between b)

pub word_part : (text : List ℕ) → list_all is_word_byte (take (position_or_len is_between text) text) ≡ true
word_part [] = refl
word_part (b ∷ bs) =
    subst (λ us. list_all is_word_byte us ≡ true) (sym (take_while-cons is_within b bs)) (⊎_elim (λ h. rw h (rw h (word_part bs))) (λ h. rw h refl) (cases_Bool (is_word_byte b)))

-- where there is no such byte, the text is the one word
shorter : (b : ℕ) (bs : List ℕ) → is_word_byte b ≡ true → length (b ∷ bs) ≤ position_or_len is_between (b ∷ bs) → length bs ≤ position_or_len is_between bs
shorter b bs h = rw h (λ long. omega arith)

stops : (b : ℕ) (bs : List ℕ) → is_word_byte b ≡ false → length (b ∷ bs) ≤ position_or_len is_between (b ∷ bs) → ⊥
stops b bs h = rw h (λ long. omega arith)

last_word : (text : List ℕ) → length text ≤ position_or_len is_between text → words_of text ≡ take (position_or_len is_between text) text ∷ []
last_word [] long = refl
last_word (b ∷ bs) long =
    subst (λ us. words_of (b ∷ bs) ≡ us ∷ []) (sym (take_while-cons is_within b bs))
    (⊎_elim (λ h. rw h (ap (onto_first b) (last_word bs (shorter b bs h long)))) (λ h. absurd (stops b bs h long)) (cases_Bool (is_word_byte b)))

-- the first of the words that a test finds: the first, or one of those behind it
pub found_first : (p : List ℕ → Bool) (text : List ℕ) (n : ℕ) → n ≡ position_or_len is_between text → p (take n text) ≡ true → find p (words_of text) ≡ Some (take n text)
found_first p text n e h =
    ⊎_elim
    (λ within. subst (λ k. find p (words_of text) ≡ Some (take k text)) (sym e)
    (ap (find p) (slice_split_first is_between text 0 within) ∙ rw (sym (ap (λ k. p (take k text)) e) ∙ h) refl))
    (λ long. subst (λ k. find p (words_of text) ≡ Some (take k text)) (sym e)
    (ap (find p) (last_word text long) ∙ rw (sym (ap (λ k. p (take k text)) e) ∙ h) refl))
    (cases_lt (position_or_len is_between text) (length text))

pub found_next : (p : List ℕ → Bool) (text : List ℕ) (n : ℕ) → n ≡ position_or_len is_between text → p (take n text) ≡ false → n < length text
    → find p (words_of text) ≡ find p (words_of (drop (n + 1) text))
found_next p text n e h within =
    subst (λ k. find p (words_of text) ≡ find p (words_of (drop (k + 1) text))) (sym e)
    (ap (find p) (slice_split_first is_between text 0 (subst (λ k. k < length text) e within)) ∙ rw (sym (ap (λ k. p (take k text)) e) ∙ h) refl)

pub found_none : (p : List ℕ → Bool) (text : List ℕ) (n : ℕ) → n ≡ position_or_len is_between text → p (take n text) ≡ false → length text ≤ n → find p (words_of text) ≡ None
found_none p text n e h long =
    ap (find p) (last_word text (subst (λ k. length text ≤ k) e long)) ∙ rw (sym (ap (λ k. p (take k text)) e) ∙ h) refl
