-- Lines of texts by their numbers, from 1.
use Rattle.std.specs.Prelude.{◌≡◌, ℕ, zero, suc, ◌+◌, if◌then◌else◌, List, [], ◌∷◌, Option, Some, None, slice_get}
use Rattle.ioa_value.specs.Actions.{Act}
use Rattle.ioa_value.specs.Lists.{ReadsList, is_skipped, lines}
use Rattle.ioa_value.specs.Reads.{Reads}
use Rattle.ioa_value.specs.Table.{Table}

-- the line of this number; no line has the number 0
abbrev pub line_at : List ℕ → ℕ → Option (List ℕ)
line_at text zero = None
line_at text (suc n) = slice_get (lines text) n

-- the number of the line that holds the action of this index, from 0, where the first of the lines has the number n: each line that is
-- not skipped holds one
abbrev pub line_holding : ℕ → List (List ℕ) → ℕ → Option ℕ
line_holding n [] i = None
line_holding n (l ∷ ls) zero = if is_skipped l then line_holding (n + 1) ls zero else Some n
line_holding n (l ∷ ls) (suc i) = if is_skipped l then line_holding (n + 1) ls (suc i) else line_holding (n + 1) ls i

-- the same of a list's text
abbrev pub line_of_action : List ℕ → ℕ → Option ℕ
line_of_action text i = line_holding 1 (lines text) i

-- in a text of actions the line of this number is the text of the action of that index
abbrev pub ActionsHaveLines : Type 0
ActionsHaveLines =
    (types : Table) (text : List ℕ) (acts : List Act) (i : ℕ) (a : Act) → ReadsList types text acts → slice_get acts i ≡ Some a
    → (n : ℕ) × (l : List ℕ) × (line_of_action text i ≡ Some n) × (line_at text n ≡ Some l) × Reads types l a
