-- What a counting device answers, and counts, of what the device within it answers.
use Rattle.std.specs.Prelude.{ℕ, ◌+◌, ◌-◌, ◌^◌, min, List, length, Bool, true, false, not, Option, Some, None, is_some, Result, Ok, Err, nat_lt, if◌then◌else◌}

-- how many bytes a call moved that has to move so many at least; none where it failed
abbrev pub moved : {E : Type 0} → ℕ → Result ℕ E → Option ℕ
moved least (Ok n) = if nat_lt n least then None else Some n
moved least (Err e) = None

abbrev pub has_failed : {E : Type 0} → ℕ → Result ℕ E → Bool
has_failed least answer = not (is_some (moved least answer))

-- a write has to take a byte where there is one
abbrev pub least_taken : List ℕ → ℕ
least_taken piece = min 1 (length piece)

-- how many bytes were given, after an answer that gives some or fails; the count stops at its greatest
abbrev pub given_after : {E : Type 0} → Result ℕ E → ℕ → ℕ
given_after (Ok n) count = min (count + n) (2 ^ 64 - 1)
given_after (Err e) count = count

-- how many calls failed, after one more that failed or passed; the count stops at its greatest
abbrev pub count_after : Bool → ℕ → ℕ
count_after true count = min (count + 1) (2 ^ 64 - 1)
count_after false count = count
