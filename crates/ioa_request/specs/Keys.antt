-- How keys are spelled, and the keys that numbers have.
use Rattle.std.specs.Prelude.{ℕ, ◌++◌, ◌-◌, List, [], Option, length, replicate, unwrap_or}
use Rattle.std.specs.Fmt.{decimal}
use Rattle.std.specs.Result.{result_ok}
use Rattle.hex.specs.Hex.{decode_sized}

-- the 32 bytes that 64 hexadecimal digits spell, two for each, the first byte first
abbrev pub key_in : List ℕ → Option (List ℕ)
key_in digits = result_ok (decode_sized digits 32)

-- the 64 digits of the key of a number, which are its decimal digits, with zeros before them
unfoldable pub numbered_digits : ℕ → List ℕ
numbered_digits n = replicate (64 - length (decimal n)) 48 ++ decimal n

-- the key of a number of 64 bits, which these digits spell
unfoldable pub numbered_key : ℕ → List ℕ
numbered_key n = unwrap_or (key_in (numbered_digits n)) []
