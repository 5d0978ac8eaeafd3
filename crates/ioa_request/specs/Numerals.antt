-- Numbers, as they are spelled in decimal.
use Rattle.std.specs.Prelude.{ℕ, ◌&&◌, not, ◌==◌, nat_le, List, length, Option, Some, None, if◌then◌else◌}
use Rattle.std.specs.Str.{all_ascii_digits}
use Rattle.std.specs.Str.Parse.{digits_value}

-- the number that a word spells, of digits alone, where it is no greater than this one
abbrev pub numeral_in : ℕ → List ℕ → Option ℕ
numeral_in most word =
    if not (length word == 0) && all_ascii_digits word && nat_le (digits_value 10 word) most then Some (digits_value 10 word) else None
