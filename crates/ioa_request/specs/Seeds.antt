-- What the words of a command line say of runs by many seeds: which numbers they have.
use Rattle.std.specs.Prelude.{ℕ, ◌-◌, ◌^◌, ◌==◌, nat_le, [], ◌∷◌, Option, Some, None, if◌then◌else◌}
use Rattle.std.specs.Option.{option_and_then}
use Rattle.clap.specs.Words.{Text}
use Rattle.ioa_request.specs.Fields.{before, behind}
use Rattle.ioa_request.specs.Numerals.{numeral_in}

-- the code of a point
abbrev pub point : ℕ
point = 46

-- two numbers of 64 bits, of which the first is no greater
abbrev pub ends_in : Text → Text → Option (ℕ × ℕ)
ends_in first last =
    option_and_then (λ a. option_and_then (λ b. if nat_le a b then Some (a, b) else None) (numeral_in (2 ^ 64 - 1) last)) (numeral_in (2 ^ 64 - 1) first)

-- what stands behind a first number and a point is another point, and then the last number
abbrev pub range_behind : Text → Text → Option (ℕ × ℕ)
range_behind first [] = None
range_behind first (b ∷ bs) = if b == point then ends_in first bs else None

-- `A..B`: the numbers from A to B, both included
abbrev pub range_in : Text → Option (ℕ × ℕ)
range_in word = option_and_then (range_behind (before point word)) (behind point word)
