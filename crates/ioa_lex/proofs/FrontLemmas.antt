-- What stands at the front of a text, by its first byte.
use Rattle.std.proofs.Common.{◌≡◌, ℕ, ◌+◌, ◌≤◌, ◌<◌, true, eqb, List, [], ◌∷◌, ◌++◌, length, take, drop, Some, None, ◌⊎◌, inl, inr, ⊎_elim, refl, sym, ap, ◌∙◌, subst, min, arith}
use Rattle.std.specs.List.{list_all, prefix_len}
use Rattle.std.proofs.lemmas.Bool.{and_from, both_ways, not-false, eq-eqb, eqb-true, cases_Bool, cases_eq, cond-true}
use Rattle.std.proofs.lemmas.List.{take_at, take-append-drop, length-append, length-take-le, drop-drop}
use Rattle.std.proofs.lemmas.List.Sums.{prefix_len-le-length, take_while-cons}
use Rattle.std.proofs.lemmas.List.Folds.{length-prefix_len}
use Rattle.ioa_value.specs.declared.limits.TheConstants.{LIMITS}
use Rattle.ioa_value.specs.Names.{is_letter, is_digit, is_word_byte}
use Rattle.ioa_lex.specs.declared.token.Kind.{Kind}
use Rattle.ioa_lex.specs.declared.token.Kind.TheVariants as kinds
use Rattle.ioa_value.specs.declared.terminal.Terminal.{Terminal}
use Rattle.ioa_value.specs.Spelling.{spelling_of, IsReserved}
use Rattle.ioa_lex.specs.Tokens.{Tok, name, kind_shown}
use Rattle.ioa_lex.specs.Lexing.{is_blank, is_in_line, is_word, is_digits, value_of, IsTokenText, by_word, by_digits, Writes, IsLongest, blank, comment, token, EndsLine, NoneStands}
use Rattle.ioa_lex.specs.Fronts.{is_sign_part, IsFront}
use Rattle.ioa_lex.proofs.Bytes.{is_first, first_of_letter, first_of_digit, sign_part, part_of_letter, all_of_prefix, prefix_longest}
use Rattle.ioa_lex.proofs.Texts.{head, head_of_front, text_some, text_of_letter, text_of_digit, text_of_sign, text_of_token, token_of_word, token_of_digits, name_of_word, same_front}
use Rattle.ioa_lex.proofs.Pieces.{plain}

-- a blank
pub blank_front : (text : List ℕ) → 0 < length text → is_blank (head text) ≡ true → IsFront text None 1
blank_front [] some h = absurd (omega arith)
blank_front (b ∷ bs) some h = record { piece = blank b; kept = tt; size = refl; split = refl; stands = h }

-- a comment
line_end : (bs : List ℕ) → EndsLine (drop (prefix_len is_in_line bs) bs)
line_end [] = tt
line_end (b ∷ bs) =
    ⊎_elim (λ inside. rw inside (subst EndsLine (drop-drop (prefix_len is_in_line bs) 1 (b ∷ bs)) (line_end bs))) (λ ends. rw ends (eqb-true b 10 (not-false (eqb b 10) ends))) (cases_Bool (is_in_line b))

pub comment_front : (text : List ℕ) → 0 < length text → head text ≡ 37 → IsFront text None (prefix_len is_in_line text)
comment_front [] some h = absurd (omega arith)
comment_front (b ∷ bs) some h =
    let n = prefix_len is_in_line bs in
    let size : prefix_len is_in_line (b ∷ bs) ≡ 1 + n = cond-true (is_in_line b) (1 + n) 0 (ap is_in_line h) in
    let rest : drop n bs ≡ drop (1 + n) (b ∷ bs) = drop-drop n 1 (b ∷ bs) in
    subst (λ m. IsFront (b ∷ bs) None m) (sym size) (record {
      piece = comment (take n bs);
      kept = tt;
      size = omega (arith, length-prefix_len is_in_line bs);
      split = let same : 37 ∷ (take n bs ++ drop n bs) ≡ b ∷ bs = cc (take-append-drop n bs, h) in sym same ∙ ap (λ x. 37 ∷ (take n bs ++ x)) rest;
      stands = (all_of_prefix is_in_line bs, subst EndsLine rest (line_end bs));
    })

-- a token that takes n bytes, where no token's text at the front has more
pub token_front : (text : List ℕ) (n : ℕ) (k : Kind) → n ≤ length text → Writes (take n text) (kind_shown k) → ((v rest : List ℕ) → text ≡ v ++ rest → IsTokenText v → length v ≤ n) → IsFront text (Some k) n
token_front text n k within writes longest =
    let size : length (take n text) ≡ n = length-take-le n text within in
    record {
      piece = token (take n text) (kind_shown k);
      kept = refl;
      size = size;
      split = sym (take-append-drop n text);
      stands = (writes, λ v rest e it. rw size (longest v rest (sym (take-append-drop n text) ∙ e) it));
    }

-- no piece, where the first byte is a token's and no token stands
pub none_front : (text : List ℕ) → is_first (head text) ≡ true → ((w rest : List ℕ) (t : Tok) → text ≡ w ++ rest → Writes w t → IsLongest w text → ⊥) → NoneStands text
none_front text first none (blank b) rest e h =
    let same : b ≡ head text = head_of_front (b ∷ []) rest text e (omega arith) in
    both_ways (is_blank b) (ap is_blank same ∙ (plain (head text) first).blank) h
none_front text first none (comment c) rest e h =
    let same : 37 ≡ head text = head_of_front (37 ∷ c) rest text e (omega arith) in
    both_ways (eqb (head text) 37) (plain (head text) first).comment (eq-eqb (head text) 37 (sym same))
none_front text first none (token w t) rest e h = none w rest t e h.0 (subst (λ x. IsLongest w x) (sym e) h.1)

-- the text of a longest token, where a token's text of n bytes is longest
longest_is : (text w rest : List ℕ) (n : ℕ) → text ≡ w ++ rest → IsTokenText w → IsLongest w text → n ≤ length text → IsTokenText (take n text) → length w ≤ n → w ≡ take n text
longest_is text w rest n e it longest within other below =
    let size : length (take n text) ≡ n = length-take-le n text within in
    let above = longest (take n text) (drop n text) (sym (take-append-drop n text)) other in
    let same : length w ≡ length (take n text) = omega arith in
    (same_front w (take n text) rest (drop n text) (sym e ∙ sym (take-append-drop n text)) same).0

-- a front of a text, by its length
front_is : (text v rest : List ℕ) (n : ℕ) → text ≡ v ++ rest → length v ≡ n → v ≡ take n text
front_is text v rest n e size = sym (ap (take n) e ∙ take_at v rest n size)

-- a word
word_at : (text : List ℕ) → 0 < length text → is_letter (head text) ≡ true → is_word (take (prefix_len is_word_byte text) text) ≡ true
word_at [] some letter = absurd (omega arith)
word_at (b ∷ bs) some letter =
    let more = take (prefix_len is_word_byte bs) bs in
    let e : take (prefix_len is_word_byte (b ∷ bs)) (b ∷ bs) ≡ b ∷ more =
    take_while-cons is_word_byte b bs ∙ cond-true (is_word_byte b) (b ∷ more) [] (part_of_letter b letter) in
    ap is_word e ∙ and_from (is_letter b) (list_all is_word_byte more) letter (all_of_prefix is_word_byte bs)

word_longest : (text : List ℕ) → is_letter (head text) ≡ true → (v rest : List ℕ) → text ≡ v ++ rest → IsTokenText v → length v ≤ prefix_len is_word_byte text
word_longest text letter v rest e it =
    let same : head v ≡ head text = head_of_front v rest text e (text_some v it) in
    let k = text_of_letter v it (ap is_letter same ∙ letter) in
    rw e (prefix_longest is_word_byte v rest k.parts)

pub terminal_front : (text : List ℕ) (t : Terminal) → is_letter (head text) ≡ true → take (prefix_len is_word_byte text) text ≡ spelling_of t → IsFront text (Some (kinds.Terminal t)) (prefix_len is_word_byte text)
terminal_front text t letter written =
    token_front text (prefix_len is_word_byte text) (kinds.Terminal t) (prefix_len-le-length is_word_byte text) written (word_longest text letter)

pub name_front : (text : List ℕ) (k : Kind) → 0 < length text → is_letter (head text) ≡ true → kind_shown k ≡ name (take (prefix_len is_word_byte text) text) → ¬ (IsReserved (take (prefix_len is_word_byte text) text)) → prefix_len is_word_byte text ≤ LIMITS.name → IsFront text (Some k) (prefix_len is_word_byte text)
name_front text k some letter shown free short =
    let n = prefix_len is_word_byte text in
    let small : length (take n text) ≤ LIMITS.name = omega (arith, length-prefix_len is_word_byte text) in
    let writes : Writes (take n text) (name (take n text)) = (refl, name_of_word (take n text) (word_at text some letter) small free) in
    token_front text n k (prefix_len-le-length is_word_byte text) (subst (λ t. Writes (take n text) t) (sym shown) writes) (word_longest text letter)

pub word_too_long : (text : List ℕ) → 0 < length text → is_letter (head text) ≡ true → LIMITS.name < prefix_len is_word_byte text → NoneStands text
word_too_long text some letter long = none_front text (first_of_letter (head text) letter) (λ w rest t e writes longest.
    let n = prefix_len is_word_byte text in
    let it = text_of_token w t writes in
    let word : is_word (take n text) ≡ true = word_at text some letter in
    let same : w ≡ take n text = longest_is text w rest n e it longest (prefix_len-le-length is_word_byte text) (by_word word) (word_longest text letter w rest e it) in
    let short : length (take n text) ≤ LIMITS.name = token_of_word (take n text) t word (subst (λ x. Writes x t) same writes) in
    omega (arith, length-prefix_len is_word_byte text))

-- a number
digits_at : (text : List ℕ) → 0 < length text → is_digit (head text) ≡ true → is_digits (take (prefix_len is_digit text) text) ≡ true
digits_at [] some digit = absurd (omega arith)
digits_at (b ∷ bs) some digit =
    let more = take (prefix_len is_digit bs) bs in
    let e : take (prefix_len is_digit (b ∷ bs)) (b ∷ bs) ≡ b ∷ more =
    take_while-cons is_digit b bs ∙ cond-true (is_digit b) (b ∷ more) [] digit in
    ap is_digits e ∙ and_from (is_digit b) (list_all is_digit more) digit (all_of_prefix is_digit bs)

digits_longest : (text : List ℕ) → is_digit (head text) ≡ true → (v rest : List ℕ) → text ≡ v ++ rest → IsTokenText v → length v ≤ prefix_len is_digit text
digits_longest text digit v rest e it =
    let same : head v ≡ head text = head_of_front v rest text e (text_some v it) in
    let k = text_of_digit v it (ap is_digit same ∙ digit) in
    rw e (prefix_longest is_digit v rest k.parts)

pub number_front : (text : List ℕ) (n : ℕ) → 0 < length text → is_digit (head text) ≡ true → n ≡ value_of (take (prefix_len is_digit text) text) → n ≤ 9223372036854775807 → IsFront text (Some (kinds.Number n)) (prefix_len is_digit text)
number_front text n some digit value small =
    token_front text (prefix_len is_digit text) (kinds.Number n) (prefix_len-le-length is_digit text) (digits_at text some digit, value, small) (digits_longest text digit)

pub number_too_large : (text : List ℕ) → 0 < length text → is_digit (head text) ≡ true → 9223372036854775807 < value_of (take (prefix_len is_digit text) text) → NoneStands text
number_too_large text some digit large = none_front text (first_of_digit (head text) digit) (λ w rest t e writes longest.
    let n = prefix_len is_digit text in
    let it = text_of_token w t writes in
    let digits : is_digits (take n text) ≡ true = digits_at text some digit in
    let same : w ≡ take n text = longest_is text w rest n e it longest (prefix_len-le-length is_digit text) (by_digits digits) (digits_longest text digit w rest e it) in
    let small : value_of (take n text) ≤ 9223372036854775807 = token_of_digits (take n text) t digits (subst (λ x. Writes x t) same writes) in
    omega arith)

-- a sign has one byte or two
pub record SignFront (text v : List ℕ) : Type 0 where
  pub reserved : IsReserved v
  pub size : (length v ≡ 1) ⊎ (v ≡ take (min (length text) 2) text)

sign_at : (text v rest : List ℕ) → is_sign_part (head text) ≡ true → text ≡ v ++ rest → IsTokenText v → SignFront text v
sign_at text v rest part e it =
    let some : 0 < length v = text_some v it in
    let same : head v ≡ head text = head_of_front v rest text e some in
    let k = text_of_sign v it (ap is_sign_part same ∙ part) in
    let short : length v ≤ 2 = k.0.short in
    let whole : length text ≡ length v + length rest = ap length e ∙ length-append v rest in
    record {
      reserved = k.1;
      size = ⊎_elim (λ one. inl one) (λ more. inr (front_is text v rest (min (length text) 2) e (omega arith))) (cases_eq (length v) 1);
    }

pub sign_front_two : (text : List ℕ) (t : Terminal) → is_sign_part (head text) ≡ true → take (min (length text) 2) text ≡ spelling_of t → IsFront text (Some (kinds.Terminal t)) (min (length text) 2)
sign_front_two text t part written = token_front text (min (length text) 2) (kinds.Terminal t) (omega arith) written (λ v rest e it.
    let same : head v ≡ head text = head_of_front v rest text e (text_some v it) in
    let short : length v ≤ 2 = (text_of_sign v it (ap is_sign_part same ∙ part)).0.short in
    let whole : length text ≡ length v + length rest = ap length e ∙ length-append v rest in
    omega arith)

pub sign_front_one : (text : List ℕ) (t : Terminal) → 0 < length text → is_sign_part (head text) ≡ true → ¬ (IsReserved (take (min (length text) 2) text)) → take 1 text ≡ spelling_of t → IsFront text (Some (kinds.Terminal t)) 1
sign_front_one text t some part free written = token_front text 1 (kinds.Terminal t) (omega arith) written (λ v rest e it.
    let k = sign_at text v rest part e it in
    ⊎_elim (λ one. omega arith) (λ two. absurd (free (subst IsReserved two k.reserved))) k.size)

pub no_sign : (text : List ℕ) → is_sign_part (head text) ≡ true → ¬ (IsReserved (take (min (length text) 2) text)) → ¬ (IsReserved (take 1 text)) → NoneStands text
no_sign text part free none = none_front text (sign_part (head text) part).first (λ w rest t e writes longest.
    let k = sign_at text w rest part e (text_of_token w t writes) in
    ⊎_elim (λ one. none (subst IsReserved (front_is text w rest 1 e one) k.reserved)) (λ two. free (subst IsReserved two k.reserved)) k.size)
