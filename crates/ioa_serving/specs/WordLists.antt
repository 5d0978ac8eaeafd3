-- Words for the workers of a run, as a file lists them: a line for each component, in order.
use Rattle.std.specs.Prelude.{◌≡◌, ℕ, zero, suc, ◌+◌, ◌-◌, ◌^◌, ◌<◌, ◌==◌, List, [], ◌∷◌, length, Option, Some, None, IsSome, if◌then◌else◌, get_or, slice_get}
use Rattle.std.specs.List.{onto_first}
use Rattle.std.specs.Option.{option_map, option_map_or, option_and_then}
use Rattle.ioa_value.specs.Lists.{first_line, after_line}
use Rattle.ioa_serving.specs.declared.words_file.ListedWords.{ListedWords}
use Rattle.ioa_request.specs.Numerals.{numeral_in}

-- what stands between single spaces; an empty text has one field, which is empty
abbrev pub fields : List ℕ → List (List ℕ)
fields [] = [] ∷ []
fields (b ∷ bs) = if b == 32 then [] ∷ fields bs else onto_first b (fields bs)

-- each field spells a word, of 32 bits
abbrev pub spelled_words : List (List ℕ) → Option (List ℕ)
spelled_words [] = Some []
spelled_words (f ∷ fs) = option_and_then (λ w. option_map (λ ws. w ∷ ws) (spelled_words fs)) (numeral_in (2 ^ 32 - 1) f)

-- the words of a line; an empty one has none
abbrev pub words_in : List ℕ → Option (List ℕ)
words_in [] = Some []
words_in (b ∷ bs) = spelled_words (fields (b ∷ bs))

-- the line of this number, from 0; a line that is missing is empty
abbrev pub line_at : ℕ → List ℕ → List ℕ
line_at zero text = first_line text
line_at (suc i) text = line_at i (after_line text)

-- the text lists these words for so many workers; later lines are not looked at
pub record AreWords (workers : ℕ) (text : List ℕ) (lists : List (List ℕ)) : Type 0 where
  pub count : length lists ≡ workers
  pub each : (i : ℕ) (ws : List ℕ) → slice_get lists i ≡ Some ws → words_in (line_at i text) ≡ Some ws

-- the first of their lines that is no list of words has this number, from 1
pub record IsBadWords (workers : ℕ) (text : List ℕ) (n : ℕ) : Type 0 where
  pub before : ℕ
  pub place : n ≡ before + 1
  pub looked_at : before < workers
  pub good : (i : ℕ) → i < before → IsSome (words_in (line_at i text))
  pub bad : words_in (line_at before text) ≡ None

-- the words that a source lists
abbrev pub listed : ListedWords → List ℕ
listed s = s.words.items

-- those of them that are to come, by number from 0, and zeros after them
abbrev pub words_to_come : ListedWords → ℕ → ℕ
words_to_come s k = get_or s.words.items (s.taken + k) 0

-- the words of the text's line of this number, by number from 0, and zeros after them; a line that is no list of words has none
abbrev pub line_words : List ℕ → ℕ → ℕ → ℕ
line_words text i k = option_map_or (λ ws. get_or ws k 0) (words_in (line_at i text)) 0
