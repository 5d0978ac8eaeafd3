-- What the words of a command line say of the entries of a log that a chart draws: their bounds, and the names that are left out.
use Rattle.std.specs.Prelude.{ℕ, ◌-◌, ◌^◌, nat_le, Bool, true, List, [], Option, Some, None}
use Rattle.std.specs.Option.{option_map}
use Rattle.clap.specs.Words.{Text}
use Rattle.ioa_request.specs.Numerals.{numeral_in}

-- the index of the first entry, or of the last: a number of 64 bits; without a word there is no bound
abbrev pub bound_in : Option Text → Option (Option ℕ)
bound_in None = Some None
bound_in (Some word) = option_map Some (numeral_in (2 ^ 64 - 1) word)

-- the first index is no greater than the last, where both are given
abbrev pub are_in_order : Option ℕ → Option ℕ → Bool
are_in_order None to = true
are_in_order (Some first) None = true
are_in_order (Some first) (Some last) = nat_le first last

-- the names that are given; none where no option stands
abbrev pub names_in : Option (List Text) → List Text
names_in None = []
names_in (Some names) = names
