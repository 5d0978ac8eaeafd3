-- Tokens with a blank after each lex to themselves.
use Rattle.std.proofs.Common.{◌≡◌, ℕ, ◌+◌, ◌-◌, ◌*◌, ◌/◌, ◌%◌, ◌^◌, ◌<◌, ◌≤◌, true, List, [], ◌∷◌, ◌++◌, length, map, refl, sym, ap, ◌∙◌, append_assoc, arith}
use Rattle.std.specs.List.{list_all}
use Rattle.std.specs.Fmt.{decimal}
use Rattle.std.proofs.lemmas.Fmt.{decimal_by_steps}
use Rattle.std.proofs.lemmas.List.Folds.{list_all-append}
use Rattle.std.proofs.lemmas.Bool.{and_parts, and_from, both_ways, not-true}
use Rattle.std.proofs.lemmas.Bool.Decides.{nat_tests}
use Rattle.ioa_value.specs.Names.{is_digit}
use Rattle.ioa_lex.specs.Tokens.{Tok, number, name, terminal}
use Rattle.ioa_lex.specs.Lexing.{is_blank, is_digits, value_of, Writes, Piece, blank, token, MayStandBefore, Covers, tokens_after, Lexes}
use Rattle.ioa_lex.specs.Spaced.{text_of, IsToken, Spaced}
use Rattle.ioa_lex.proofs.Bytes.{is_inner}
use Rattle.ioa_lex.proofs.Texts.{text_inner}
use Rattle.ioa_lex.proofs.Values.{value_push}

-- decimal digits write their number
digit_at : (n : ℕ) → n < 10 → is_digit (48 + n) ≡ true
digit_at n h = grind (arith, nat_tests)

abbrev IsDecimal : ℕ → List ℕ → Type 0
IsDecimal n ds = (is_digits ds ≡ true) × (value_of ds ≡ n)

digits_push : (ds : List ℕ) (d : ℕ) → is_digits ds ≡ true → is_digit d ≡ true → is_digits (ds ++ d ∷ []) ≡ true
digits_push [] d h k = absurd (cc)
digits_push (b ∷ bs) d h k =
    let l = and_parts (is_digit b) (list_all is_digit bs) h in
    let more : list_all is_digit (bs ++ d ∷ []) ≡ true = list_all-append is_digit bs (d ∷ []) ∙ and_from (list_all is_digit bs) (list_all is_digit (d ∷ [])) l.1 (and_from (is_digit d) true k refl) in
    and_from (is_digit b) (list_all is_digit (bs ++ d ∷ [])) l.0 more

decimal_one : (n : ℕ) → n < 10 → IsDecimal n ((48 + n) ∷ [])
decimal_one n h = (and_from (is_digit (48 + n)) true (digit_at n h) refl, omega arith)

decimal_more : (n : ℕ) (ds : List ℕ) → 10 ≤ n → IsDecimal (n / 10) ds → IsDecimal n (ds ++ (48 + n % 10) ∷ [])
decimal_more n ds h k =
    let small : n % 10 < 10 = omega arith in
    let value : value_of (ds ++ (48 + n % 10) ∷ []) ≡ value_of ds * 10 + (48 + n % 10 - 48) = value_push ds (48 + n % 10) in
    (digits_push ds (48 + n % 10) k.0 (digit_at (n % 10) small), omega (arith, value, k.1))

decimal_digits : (n : ℕ) → n < 2 ^ 64 → IsDecimal n (decimal n)
decimal_digits n h = decimal_by_steps IsDecimal decimal_one decimal_more n h

pub writes_text : (t : Tok) → IsToken t → Writes (text_of t) t
writes_text (number n) h = let k = decimal_digits n (omega arith) in (k.0, sym k.1, h)
writes_text (name s) h = (refl, h)
writes_text (terminal t) h = refl

-- no token's text goes on past a blank
before_blank : (w v rest r : List ℕ) (b : ℕ) → w ++ b ∷ rest ≡ v ++ r → list_all is_inner v ≡ true → is_blank b ≡ true → length v ≤ length w
before_blank w [] rest r b e h k = omega arith
before_blank [] (x ∷ v) rest r b e h k =
    let same : b ≡ x = cc in
    let l = and_parts (is_inner x) (list_all is_inner v) h in
    absurd (both_ways (is_blank x) (not-true (is_blank x) l.0) (ap is_blank (sym same) ∙ k))
before_blank (y ∷ w) (x ∷ v) rest r b e h k =
    let l = and_parts (is_inner x) (list_all is_inner v) h in
    let tail : w ++ b ∷ rest ≡ v ++ r = cc in
    let more = before_blank w v rest r b tail l.1 k in
    omega arith

pub token_stands : (t : Tok) (b : ℕ) (rest : List ℕ) → IsToken t → is_blank b ≡ true → MayStandBefore (token (text_of t) t) (b ∷ rest)
token_stands t b rest h k = (writes_text t h, λ v r e it. before_blank (text_of t) v rest r b e (text_inner v it) k)

pieces_of : (ts : List Tok) (text : List ℕ) → Spaced ts text → List Piece
pieces_of [] text h = []
pieces_of (t ∷ ts) text h = token (text_of t) t ∷ blank h.0 ∷ pieces_of ts h.1 h.5

covers_of : (ts : List Tok) (text : List ℕ) (h : Spaced ts text) → Covers (pieces_of ts text h) text []
unfolding pieces_of
covers_of [] text h = h
covers_of (t ∷ ts) text h = (h.0 ∷ h.1, h.4, token_stands t h.0 h.1 h.2 h.3, (h.1, refl, h.3, covers_of ts h.1 h.5))

tokens_of : (ts : List Tok) (text before : List ℕ) (h : Spaced ts text) → map (λ u. u.0) (tokens_after before (pieces_of ts text h)) ≡ ts
unfolding pieces_of
tokens_of [] text before h = refl
tokens_of (t ∷ ts) text before h = ap (λ us. t ∷ us) (tokens_of ts h.1 ((before ++ text_of t) ++ h.0 ∷ []) h.5)

pub spaced_lexes : (ts : List Tok) (text : List ℕ) → Spaced ts text → (us : List (Tok × ℕ)) × Lexes text us × (map (λ u. u.0) us ≡ ts)
spaced_lexes ts text h = (tokens_after [] (pieces_of ts text h), (pieces_of ts text h, covers_of ts text h, refl), tokens_of ts text [] h)

-- one such text after another
pub spaced_append : (ts us : List Tok) (a b : List ℕ) → Spaced ts a → Spaced us b → Spaced (ts ++ us) (a ++ b)
spaced_append [] us a b h k = rw h k
spaced_append (t ∷ ts) us a b h k =
    (h.0, h.1 ++ b, h.2, h.3, ap (λ x. x ++ b) h.4 ∙ append_assoc (text_of t) (h.0 ∷ h.1) b, spaced_append ts us h.1 b h.5 k)

pub spaced_one : (t : Tok) (b : ℕ) → IsToken t → is_blank b ≡ true → Spaced (t ∷ []) (text_of t ++ b ∷ [])
spaced_one t b h k = (b, [], h, k, refl, refl)
