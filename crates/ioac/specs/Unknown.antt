-- The word of an action's values that is not known.
use Rattle.std.specs.Prelude.{◌≡◌, ◌||◌, ◌&&◌, ◌==◌, ℕ, Bool, not, List, Option, Some, None, codes, find, is_some, IsUtf8}
use Rattle.std.specs.List.{after_first, before_first, slice_split}
use Rattle.std.specs.Str.{bytes_eq}
use Rattle.ioa_value.specs.Actions.{Name}
use Rattle.ioa_value.specs.Names.{begins_with_letter, is_word_byte}
use Rattle.ioa_value.specs.Table.{Table, constant_named, type_named}

-- what stands behind the first such byte
abbrev pub behind : ℕ → List ℕ → List ℕ
behind mark text = after_first (λ b. b == mark) text

-- what stands behind the first `(`, up to the first `"` there
abbrev pub values_of : List ℕ → List ℕ
values_of line = before_first (λ b. b == 34) (behind 40 line)

-- its words: what stands between the bytes that are neither letters nor digits nor `_`
abbrev pub is_between : ℕ → Bool
is_between b = not (is_word_byte b)

abbrev pub words_of : List ℕ → List (List ℕ)
words_of text = slice_split is_between text

-- a word of a value is a truth value, a type, or a name of an enumeration
abbrev pub is_truth : Name → Bool
is_truth word = bytes_eq word (codes "true") || bytes_eq word (codes "false")

abbrev pub is_known : Table → Name → Bool
is_known types word = is_some (type_named types word) || (is_some (constant_named types word) || is_truth word)

-- one that begins with a letter is none of these
abbrev pub is_unknown : Table → Name → Bool
is_unknown types word = begins_with_letter word && not (is_known types word)

-- the first such word of the values; none, where the line is no text
abbrev pub unknown_among : Table → List ℕ → Option Name
unknown_among types line = find (is_unknown types) (words_of (values_of line))

abbrev pub IsUnknownIn : Table → List ℕ → Option Name → Type 0
IsUnknownIn types line None = IsUtf8 line → unknown_among types line ≡ None
IsUnknownIn types line (Some word) = IsUtf8 line × (unknown_among types line ≡ Some word)
