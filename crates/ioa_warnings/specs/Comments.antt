-- Comments that begin within a statement and read as its last operand. There `%` may have been meant for the remainder, which is `mod`: what follows is skipped.
use Rattle.std.specs.Prelude.{ℕ, ◌+◌, ◌==◌, Bool, true, false, not, ◌||◌, ◌&&◌, if◌then◌else◌, List, [], ◌∷◌, Option, Some, None}
use Rattle.std.specs.Option.{option_map, option_map_or, option_or}
use Rattle.ioa_value.specs.Lists.{lines}
use Rattle.ioa_value.specs.Names.{is_word_byte}
use Rattle.ioa_value.specs.Reads.{is_blank}
use Rattle.ioa_warnings.specs.declared.operands.Reading.{Reading}
use Rattle.ioa_warnings.specs.declared.operands.Reading.TheVariants.{Wanted, Operator, Word, Behind, Closing, Closed, Other}

-- what stands before a line's first `%`, if it has one
abbrev pub before_comment : List ℕ → Option (List ℕ)
before_comment [] = None
before_comment (b ∷ bs) = if b == 37 then Some [] else option_map (λ front. b ∷ front) (before_comment bs)

-- what stands behind it
abbrev pub behind_comment : List ℕ → List ℕ
behind_comment [] = []
behind_comment (b ∷ bs) = if b == 37 then bs else behind_comment bs

-- an `=` at the front
abbrev pub begins_equal : List ℕ → Bool
begins_equal [] = false
begins_equal (b ∷ bs) = b == 61

-- `:=` stands in it
abbrev pub assigns : List ℕ → Bool
assigns [] = false
assigns (b ∷ bs) = b == 58 && begins_equal bs || assigns bs

-- the last byte that is no blank
abbrev pub last_byte : List ℕ → Option ℕ
last_byte [] = None
last_byte (b ∷ bs) = option_or (last_byte bs) (if is_blank b then None else Some b)

-- behind `;` no statement goes on, and behind `=` its value is yet to come
abbrev pub goes_on : Option ℕ → Bool
goes_on None = false
goes_on (Some b) = not (b == 59 || b == 61)

-- what stands before a comment has begun a statement, which could go on
abbrev pub is_within_statement : List ℕ → Bool
is_within_statement front = assigns front && goes_on (last_byte front)

-- ---- operands

-- `(`, `-` and `~` stand before an operand, `.` and `,` between two
abbrev pub opens : ℕ → Bool
opens b = b == 40 || b == 45 || b == 126

abbrev pub joins : ℕ → Bool
joins b = b == 46 || b == 44

-- the signs of operators that stand between two operands, byte by byte: + - * / \ = ~ < >
abbrev pub is_sign : ℕ → Bool
is_sign b = b == 43 || b == 45 || b == 42 || b == 47 || b == 92 || b == 61 || b == 126 || b == 60 || b == 62

-- where an operand is wanted
abbrev pub begun : ℕ → Reading
begun b = if is_blank b || opens b then Wanted else if is_word_byte b then Word else Other

-- behind one
abbrev pub gone_on : ℕ → Reading
gone_on b = if is_blank b || b == 41 then Behind else if joins b then Wanted else if is_sign b then Operator else Other

-- how far an expression is read with one byte more. A word is a number or a name; two words do not follow each other, but for `fi`.
abbrev pub next : Reading → ℕ → Reading
next Wanted b = begun b
next Operator b = if is_sign b then Wanted else begun b
next Word b = if is_word_byte b then Word else if b == 40 then Wanted else gone_on b
next Behind b = if b == 102 then Closing else gone_on b
next Closing b = if b == 105 then Closed else Other
next Closed b = if is_blank b then Closed else Other
next Other b = Other

-- an operand is there, whole
abbrev pub is_whole : Reading → Bool
is_whole Wanted = false
is_whole Operator = false
is_whole Word = true
is_whole Behind = true
is_whole Closing = false
is_whole Closed = true
is_whole Other = false

-- it is so at the text's end, or at its first `;`
abbrev pub reads_on : Reading → List ℕ → Bool
reads_on r [] = is_whole r
reads_on r (b ∷ bs) = if b == 59 then is_whole r else reads_on (next r b) bs

-- the text reads as an operand, with which a statement may go on or end
abbrev pub is_operand : List ℕ → Bool
is_operand text = reads_on Wanted text

-- ---- lines

-- the line's comment begins within a statement, and reads as its operand
abbrev pub is_cut : List ℕ → Bool
is_cut line = option_map_or is_within_statement (before_comment line) false && is_operand (behind_comment line)

-- the numbers of such lines, where the first one has the number n
abbrev pub cut_from : ℕ → List (List ℕ) → List ℕ
cut_from n [] = []
cut_from n (l ∷ ls) = if is_cut l then n ∷ cut_from (n + 1) ls else cut_from (n + 1) ls

-- the numbers, from 1, of the lines of a text on which a comment begins within a statement, and reads as its operand
abbrev pub comments_in_statements : List ℕ → List ℕ
comments_in_statements text = cut_from 1 (lines text)
