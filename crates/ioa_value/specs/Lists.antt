-- List texts: one action a line.
use Rattle.std.specs.Prelude.{◌≡◌, ◌⊎◌, ℕ, ◌+◌, Bool, false, ◌||◌, ◌==◌, if◌then◌else◌, IsTrue, List, [], ◌∷◌, ◌++◌, length, All}
use Rattle.std.specs.List.{list_all, onto_first}
use Rattle.ioa_value.specs.Table.{Table}
use Rattle.ioa_value.specs.Actions.{Act}
use Rattle.ioa_value.specs.Reads.{Reads, is_blank}

-- the lines of a text: each ends at an LF, the last with or without it
abbrev pub lines : List ℕ → List (List ℕ)
lines [] = []
lines (b ∷ bs) = if b == 10 then [] ∷ lines bs else onto_first b (lines bs)

abbrev pub begins_comment : List ℕ → Bool
begins_comment [] = false
begins_comment (b ∷ bs) = b == 37

-- blanks alone, or a `%` at the front
abbrev pub is_skipped : List ℕ → Bool
is_skipped line = list_all is_blank line || begins_comment line

-- each line is skipped, or is the text of the next action
abbrev pub ReadsLines : Table → List (List ℕ) → List Act → Type 0
ReadsLines types [] acts = acts ≡ []
ReadsLines types (l ∷ ls) acts =
    (IsTrue (is_skipped l) × ReadsLines types ls acts)
    ⊎ ((a : Act) × (rest : List Act) × Reads types l a × ReadsLines types ls rest × (acts ≡ a ∷ rest))

-- the actions of a list text, in order
abbrev pub ReadsList : Table → List ℕ → List Act → Type 0
ReadsList types text acts = ReadsLines types (lines text) acts

abbrev pub IsLine : Table → List ℕ → Type 0
IsLine types l = IsTrue (is_skipped l) ⊎ ((a : Act) × Reads types l a)

-- the first line that is neither skipped nor the text of an action has this number, from 1, the skipped lines counted
abbrev pub BadLine : Table → List ℕ → ℕ → Type 0
BadLine types text n =
    (before : List (List ℕ)) × (bad : List ℕ) × (after : List (List ℕ))
    × All (IsLine types) before × (IsLine types bad → ⊥) × (lines text ≡ before ++ bad ∷ after) × (n ≡ length before + 1)

-- the first line, without its LF
abbrev pub first_line : List ℕ → List ℕ
first_line [] = []
first_line (b ∷ bs) = if b == 10 then [] else b ∷ first_line bs

-- what follows the first line and its LF
abbrev pub after_line : List ℕ → List ℕ
after_line [] = []
after_line (b ∷ bs) = if b == 10 then bs else after_line bs
