-- Where the words of an action's text begin and end.
use Rattle.std.specs.Prelude.{ℕ, Bool, not, ◌||◌, ◌==◌, List, [], ◌∷◌, if◌then◌else◌}
use Rattle.ioa_value.specs.Reads.{is_blank}

-- `(`, `)`, `,`, `[` or `]`
abbrev pub is_mark : ℕ → Bool
is_mark b = b == 40 || b == 41 || b == 44 || b == 91 || b == 93

-- no blank and no mark
abbrev pub is_inside : ℕ → Bool
is_inside b = not (is_blank b || is_mark b)

abbrev pub after_blanks : List ℕ → List ℕ
after_blanks [] = []
after_blanks (b ∷ bs) = if is_blank b then after_blanks bs else b ∷ bs

-- the word at the front
abbrev pub word : List ℕ → List ℕ
word [] = []
word (b ∷ bs) = if is_inside b then b ∷ word bs else []

abbrev pub after_word : List ℕ → List ℕ
after_word [] = []
after_word (b ∷ bs) = if is_inside b then after_word bs else b ∷ bs

-- the first word after blanks, and what follows it after blanks
abbrev pub first_word : List ℕ → List ℕ
first_word text = word (after_blanks text)

abbrev pub after_first : List ℕ → List ℕ
after_first text = after_blanks (after_word (after_blanks text))
