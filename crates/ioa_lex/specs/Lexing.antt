-- What the tokens of a text are.
use Rattle.std.specs.Prelude.{◌≡◌, ◌≢◌, ℕ, ◌+◌, ◌*◌, ◌-◌, ◌<◌, ◌≤◌, ◌==◌, ◌||◌, ◌&&◌, not, Bool, false, IsTrue, List, [], ◌∷◌, ◌++◌, length, map, fold, count_by}
use Rattle.std.specs.List.{flat_map, list_all}
use Rattle.ioa_value.specs.declared.limits.TheConstants.{LIMITS}
use Rattle.ioa_value.specs.Names.{is_letter, is_digit, is_word_byte, IsName}
use Rattle.ioa_lex.specs.declared.refusal.Refusal.{Refusal}
use Rattle.ioa_lex.specs.declared.refusal.Refusal.TheVariants as refusals
use Rattle.ioa_lex.specs.declared.token.Token.{Token}
use Rattle.ioa_value.specs.Spelling.{spelling_of, IsReserved}
use Rattle.ioa_lex.specs.Tokens.{Tok, number, name, terminal, kind_shown}

-- space, tab, LF and CR separate tokens
abbrev pub is_blank : ℕ → Bool
is_blank b = b == 32 || b == 9 || b == 10 || b == 13

-- any byte but LF
abbrev pub is_in_line : ℕ → Bool
is_in_line b = not (b == 10)

-- a letter, and then letters, digits and `_`
abbrev pub is_word : List ℕ → Bool
is_word [] = false
is_word (b ∷ bs) = is_letter b && list_all is_word_byte bs

abbrev pub is_digits : List ℕ → Bool
is_digits [] = false
is_digits (b ∷ bs) = is_digit b && list_all is_digit bs

-- the number that decimal digits write
abbrev pub value_of : List ℕ → ℕ
value_of = fold (λ n b. n * 10 + (b - 48)) 0

-- a text that a token may have, before its limits are looked at
pub data IsTokenText (w : List ℕ) : Type 0 where
  by_word : IsTrue (is_word w) → IsTokenText w
  by_digits : IsTrue (is_digits w) → IsTokenText w
  by_terminal : IsReserved w → IsTokenText w

-- the text is how the token is written
abbrev pub Writes : List ℕ → Tok → Type 0
Writes w (number n) = IsTrue (is_digits w) × (n ≡ value_of w) × (n ≤ 9223372036854775807)
Writes w (name s) = (s ≡ w) × IsName w
Writes w (terminal t) = w ≡ spelling_of t

-- no longer beginning of the text is a token's
abbrev pub IsLongest : List ℕ → List ℕ → Type 0
IsLongest w text = (v rest : List ℕ) → text ≡ v ++ rest → IsTokenText v → length v ≤ length w

-- what a text is made of
pub data Piece : Type 0 where
  blank : ℕ → Piece
  comment : List ℕ → Piece
  token : List ℕ → Tok → Piece

abbrev pub bytes_of : Piece → List ℕ
bytes_of (blank b) = b ∷ []
bytes_of (comment c) = 37 ∷ c
bytes_of (token w t) = w

-- the text is empty or begins with LF
abbrev pub EndsLine : List ℕ → Type 0
EndsLine [] = Unit {0}
EndsLine (b ∷ bs) = b ≡ 10

-- the piece may stand before the rest: a comment goes on to the end of its line, and a token is the longest there
abbrev pub MayStandBefore : Piece → List ℕ → Type 0
MayStandBefore (blank b) rest = IsTrue (is_blank b)
MayStandBefore (comment c) rest = IsTrue (list_all is_in_line c) × EndsLine rest
MayStandBefore (token w t) rest = Writes w t × IsLongest w (w ++ rest)

-- the pieces, one after the other, are the text up to the rest
abbrev pub Covers : List Piece → List ℕ → List ℕ → Type 0
Covers [] text rest = text ≡ rest
Covers (p ∷ ps) text rest = (next : List ℕ) × (text ≡ bytes_of p ++ next) × MayStandBefore p next × Covers ps next rest

-- the line of the place that has these bytes before it
abbrev pub line_after : List ℕ → ℕ
line_after before = 1 + count_by (λ b. b == 10) before

-- the tokens of the pieces, each with its line, where these bytes stand before the first
abbrev pub tokens_after : List ℕ → List Piece → List (Tok × ℕ)
tokens_after before [] = []
tokens_after before (blank b ∷ ps) = tokens_after (before ++ b ∷ []) ps
tokens_after before (comment c ∷ ps) = tokens_after (before ++ 37 ∷ c) ps
tokens_after before (token w t ∷ ps) = (t, line_after before) ∷ tokens_after (before ++ w) ps

-- these are the tokens of the text, each with the line on which it begins
abbrev pub Lexes : List ℕ → List (Tok × ℕ) → Type 0
Lexes text ts = (ps : List Piece) × Covers ps text [] × (ts ≡ tokens_after [] ps)

-- no piece stands at the front of the text
abbrev pub NoneStands : List ℕ → Type 0
NoneStands text = (p : Piece) (rest : List ℕ) → text ≡ bytes_of p ++ rest → ¬ (MayStandBefore p rest)

-- the text is pieces up to a place on this line, and there it goes on and none stands
abbrev pub StopsOn : List ℕ → ℕ → Type 0
StopsOn text line =
    (ps : List Piece) × (rest : List ℕ) × Covers ps text rest × (rest ≢ []) × NoneStands rest
    × (line ≡ line_after (flat_map bytes_of ps))

-- why a text is refused: it is too long, or stops, or memory ran out
abbrev pub IsRefused : List ℕ → Refusal → Type 0
IsRefused text refusals.TextTooLong = LIMITS.text < length text
IsRefused text (refusals.BadByte line) = (length text ≤ LIMITS.text) × StopsOn text line
IsRefused text refusals.OutOfMemory = length text ≤ LIMITS.text
IsRefused text _ = ⊥

abbrev pub placed : List Token → List (Tok × ℕ)
placed ts = map (λ t. (kind_shown t.kind, t.line)) ts
