-- Texts in parts, and lines in fields, as they are read from left to right.
use Rattle.std.specs.Prelude.{ℕ, ◌==◌, List, [], ◌∷◌, Option, Some, None, if◌then◌else◌}

-- what stands before the first sign of this code
abbrev pub before : ℕ → List ℕ → List ℕ
before sign [] = []
before sign (b ∷ bs) = if b == sign then [] else b ∷ before sign bs

-- what stands behind it, where there is one
abbrev pub behind : ℕ → List ℕ → Option (List ℕ)
behind sign [] = None
behind sign (b ∷ bs) = if b == sign then Some bs else behind sign bs

-- fields are parted by single spaces
abbrev pub first_field : List ℕ → List ℕ
first_field text = before 32 text

abbrev pub after_field : List ℕ → Option (List ℕ)
after_field text = behind 32 text
