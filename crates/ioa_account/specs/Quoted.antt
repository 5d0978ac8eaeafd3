-- Lines of files, lists and logs, as they are shown.
use Rattle.std.specs.Prelude.{ℕ, zero, suc, ◌++◌, ◌&&◌, ◌||◌, ◌==◌, Bool, not, nat_lt, if◌then◌else◌, List, [], ◌∷◌, codes, drop, encode_utf8_all, length, map, take}
use Rattle.std.specs.Char.{is_control}
use Rattle.std.specs.Fmt.{decimal}
use Rattle.std.specs.Option.{option_map_or}
use Rattle.std.specs.List.{starts_with}
use Rattle.std.specs.Str.{chars}
use Rattle.std.specs.Str.Lossy.{utf8_lossy}
use Rattle.ioa_value.specs.Lists.{lines}
use Rattle.ioa_value.specs.Tokens.{after_blanks}
use Rattle.ioa_account.specs.Lines.{line_at}

-- how many bytes of a line are shown, and how many lines of a transition behind its first
abbrev pub most_shown : ℕ
most_shown = 160

abbrev pub most_following : ℕ
most_following = 11

-- the character, or U+FFFD for one that has no shape
abbrev pub shown : ℕ → ℕ
shown c = if c == 9 || not (is_control c) then c else 0xFFFD

-- what stands behind a line of so many bytes
abbrev pub end_of : ℕ → List ℕ
end_of n = if nat_lt most_shown n then codes " ..\n" else codes "\n"

-- a line, indented; its beginning, where it is long
abbrev pub shown_text : List ℕ → List ℕ
shown_text l = codes "    " ++ (encode_utf8_all (map shown (chars (utf8_lossy (take most_shown l)))) ++ end_of (length l))

-- the line of this number of the bytes, with their name
abbrev pub line_text : List ℕ → List ℕ → ℕ → List ℕ
line_text name bytes n = option_map_or (λ l. name ++ (codes ", line " ++ (decimal n ++ (codes ":\n" ++ shown_text l)))) (line_at bytes n) []

-- the text begins with these bytes
abbrev pub begins : List ℕ → List ℕ → Bool
begins text front = starts_with (λ a b. a == b) text front

-- a transition or a declaration begins
abbrev pub begins_anew : List ℕ → Bool
begins_anew text =
    begins text (codes "input ") || begins text (codes "output ") || begins text (codes "internal ") || begins text (codes "automaton ")
    || begins text (codes "composition ") || begins text (codes "type ") || begins text (codes "invariant ")

-- the line goes on with what stands before it: it is not blank, and begins nothing
abbrev pub goes_on : List ℕ → Bool
goes_on l = not (length (after_blanks l) == 0) && not (begins_anew (after_blanks l))

-- the first lines that go on with what stands before them, so many at most
abbrev pub following : ℕ → List (List ℕ) → List ℕ
following zero ls = []
following (suc k) [] = []
following (suc k) (l ∷ ls) = if goes_on l then shown_text l ++ following k ls else []

-- the transition that begins on the line of this number; no line has the number 0
abbrev pub transition_text : List ℕ → List ℕ → ℕ → List ℕ
transition_text name bytes zero = []
transition_text name bytes (suc n) = line_text name bytes (suc n) ++ following most_following (drop (suc n) (lines bytes))
