-- The lines that a reader gives, one after another.
use Rattle.std.specs.Prelude.{◌≡◌, ◌≤◌, ◌<◌, ◌⊎◌, ℕ, ◌-◌, true, List, [], ◌++◌, drop, take, length, Option, Some, IfSome, option_map}
use Rattle.ioa_value.specs.Lists.{first_line, lines}
use Rattle.ioa_device.specs.declared.line_reader.LineReader.{LineReader}

-- a text that is its own first line holds no LF
abbrev pub IsLineText : List ℕ → Type 0
IsLineText l = first_line l ≡ l

-- the bytes that are still to come are of the piece that was read last, and there is room for a next one
abbrev pub IsWithin : LineReader → Type 0
IsWithin r = (r.end ≤ length r.room.items) × (r.start ≤ r.end) × (0 < length r.room.items)

-- where it gave its last byte, none is to come from the device
abbrev pub IsOver : Option (List ℕ) → LineReader → Type 0
IsOver known r = r.over ≡ true → IfSome known (λ bytes. bytes ≡ [])

-- whether a byte is to come is known: one was read, or the end was seen
abbrev pub HasByte : LineReader → Type 0
HasByte r = (r.start < r.end) ⊎ (r.over ≡ true)

-- the bytes that were read and are still to come
abbrev pub rest : LineReader → List ℕ
rest r = take (r.end - r.start) (drop r.start r.room.items)

-- the next line is known: it was read to its LF, or the end was seen
abbrev pub HasLine : LineReader → Type 0
HasLine r = (IsLineText (rest r) → ⊥) ⊎ (r.over ≡ true)

-- what is known of the bytes that are to come
abbrev pub to_come : Option (List ℕ) → LineReader → Option (List ℕ)
to_come known r = option_map (λ more. rest r ++ more) known

-- of these bytes, these lines came, and the others are to come
abbrev pub AreTaken : List ℕ → List (List ℕ) → Option (List ℕ) → Type 0
AreTaken bytes ls left = (others : List ℕ) × (left ≡ Some others) × (lines bytes ≡ ls ++ lines others)
