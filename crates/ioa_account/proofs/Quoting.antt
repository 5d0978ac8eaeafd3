-- Lines as they are shown.
use Rattle.std.proofs.Common.{◌≡◌, ℕ, zero, suc, ◌<◌, true, false, List, [], ◌∷◌, ◌++◌, IsUtf8, codes, length, map, refl, sym, ap, ◌∙◌, append_assoc, append-nil, take, encode_utf8_all}
use Rattle.std.specs.Char.{encode_utf8}
use Rattle.std.specs.Str.{chars}
use Rattle.std.specs.Str.Lossy.{utf8_lossy}
use Rattle.std.proofs.lemmas.List.{nil_from_length}
use Rattle.std.proofs.lemmas.Str.{chars-nil, chars_past_char}
use Rattle.ioa_value.specs.Lists.{after_line, first_line, lines}
use Rattle.ioa_value.proofs.ListLemmas.{cut_lines}
use Rattle.ioa_account.specs.Quoted.{end_of, following, goes_on, most_shown, shown, shown_text}

-- ---- letters

-- one more letter is put
pub letter_put : (before put text rest all : List ℕ) (c : ℕ) → IsUtf8 text → text ≡ encode_utf8 c ++ rest → put ≡ before ++ encode_utf8 (shown c)
    → before ++ encode_utf8_all (map shown (chars text)) ≡ all → put ++ encode_utf8_all (map shown (chars rest)) ≡ all
letter_put before put text rest all c good parts e held =
    ap (λ p. p ++ encode_utf8_all (map shown (chars rest))) e
    ∙ append_assoc before (encode_utf8 (shown c)) (encode_utf8_all (map shown (chars rest)))
    ∙ sym (ap (λ cs. before ++ encode_utf8_all (map shown cs)) (chars_past_char text rest c good parts))
    ∙ held

-- none is left
pub no_letters : (put text all : List ℕ) → length text ≡ 0 → put ++ encode_utf8_all (map shown (chars text)) ≡ all → put ≡ all
no_letters put text all e held =
    sym (append-nil put) ∙ sym (ap (λ cs. put ++ encode_utf8_all (map shown cs)) (ap chars (nil_from_length text e) ∙ chars-nil)) ∙ held

-- ---- a line

-- what is put piece by piece is the line as it is shown
pub shown_line : (before one two three words end line text : List ℕ) → one ≡ before ++ codes "    " → words ≡ utf8_lossy text → text ≡ take most_shown line
    → two ≡ one ++ encode_utf8_all (map shown (chars words)) → end ≡ end_of (length line) → three ≡ two ++ end → three ≡ before ++ shown_text line
shown_line before one two three words end line text is_one is_words is_text is_two is_end is_three =
    is_three
    ∙ ap (λ e. two ++ e) is_end
    ∙ ap (λ t. t ++ end_of (length line)) (is_two ∙ ap (λ o. o ++ encode_utf8_all (map shown (chars words))) is_one)
    ∙ ap (λ w. ((before ++ codes "    ") ++ encode_utf8_all (map shown (chars w))) ++ end_of (length line)) (is_words ∙ ap utf8_lossy is_text)
    ∙ append_assoc (before ++ codes "    ") _ _ ∙ append_assoc before (codes "    ") _

-- ---- lines

follows : (k : ℕ) (l : List ℕ) (ls : List (List ℕ)) → goes_on l ≡ true → following (suc k) (l ∷ ls) ≡ shown_text l ++ following k ls
follows k l ls e = rw e refl

stops : (k : ℕ) (l : List ℕ) (ls : List (List ℕ)) → goes_on l ≡ false → following k (l ∷ ls) ≡ []
stops zero l ls e = refl
stops (suc k) l ls e = rw e refl

none_follow : (k : ℕ) → following k [] ≡ []
none_follow zero = refl
none_follow (suc k) = refl

-- one more line is put
pub line_put : (before put rest line after all : List ℕ) (k : ℕ) → 0 < length rest → line ≡ first_line rest → after ≡ after_line rest → goes_on line ≡ true
    → put ≡ before ++ shown_text line → before ++ following (suc k) (lines rest) ≡ all → put ++ following k (lines after) ≡ all
line_put before put rest line after all k long is_line is_after goes e held =
    ap (λ p. p ++ following k (lines after)) e
    ∙ append_assoc before (shown_text line) (following k (lines after))
    ∙ ap (λ t. before ++ t)
    (sym (follows k line (lines after) goes) ∙ ap (λ l. following (suc k) (l ∷ lines after)) is_line ∙ ap (λ t. following (suc k) (first_line rest ∷ lines t)) is_after
    ∙ sym (ap (following (suc k)) (cut_lines rest long)))
    ∙ held

-- the next line does not go on, or there is none
pub line_stops : (put rest line all : List ℕ) (k : ℕ) → 0 < length rest → line ≡ first_line rest → goes_on line ≡ false → put ++ following k (lines rest) ≡ all → put ≡ all
line_stops put rest line all k long is_line stop held =
    sym (append-nil put)
    ∙ sym (ap (λ t. put ++ t) (ap (following k) (cut_lines rest long) ∙ stops k (first_line rest) (lines (after_line rest)) (ap goes_on (sym is_line) ∙ stop)))
    ∙ held

pub no_line : (put rest all : List ℕ) (k : ℕ) → rest ≡ [] → put ++ following k (lines rest) ≡ all → put ≡ all
no_line put rest all k e held = sym (append-nil put) ∙ sym (ap (λ t. put ++ t) (ap (λ r. following k (lines r)) e ∙ none_follow k)) ∙ held
