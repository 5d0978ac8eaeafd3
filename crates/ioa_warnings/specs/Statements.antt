-- What it means that a comment begins within a statement, and reads as its operand.
use Rattle.std.specs.Prelude.{◌≡◌, ◌≢◌, ◌↔◌, ℕ, ◌==◌, false, not, IsTrue, List, ◌∷◌, ◌++◌}
use Rattle.std.specs.List.{list_all}
use Rattle.ioa_value.specs.Reads.{IsBlank, is_blank}
use Rattle.ioa_warnings.specs.Comments.{is_cut, is_operand}

-- the line's comment begins right behind the front, with its first `%`
abbrev pub IsParted : List ℕ → List ℕ → List ℕ → Type 0
IsParted front comment line = IsTrue (list_all (λ b. not (b == 37)) front) × (line ≡ front ++ 37 ∷ comment)

-- `:=` stands in it
abbrev pub Assigns : List ℕ → Type 0
Assigns text = (target : List ℕ) × (value : List ℕ) × (text ≡ target ++ 58 ∷ 61 ∷ value)

-- but for blanks, this is its last byte
abbrev pub EndsWith : List ℕ → ℕ → Type 0
EndsWith text last = (before : List ℕ) × (blanks : List ℕ) × (text ≡ before ++ last ∷ blanks) × (is_blank last ≡ false) × IsBlank blanks

-- `:=` stands before a line's comment, and the last byte there is neither `;`, which would end the statement, nor `=`, behind which its
-- value is yet to come; and the comment reads as an operand
pub record IsBrokenOff (line : List ℕ) : Type 0 where
  pub front : List ℕ
  pub comment : List ℕ
  pub parted : IsParted front comment line
  pub assigns : Assigns front
  pub last : ℕ
  pub ends : EndsWith front last
  pub not_ended : last ≢ 59
  pub has_value : last ≢ 61
  pub reads : IsTrue (is_operand comment)

-- these are the lines of which the numbers are told
abbrev pub CutIsBrokenOff : Type 0
CutIsBrokenOff = (line : List ℕ) → IsTrue (is_cut line) ↔ IsBrokenOff line
