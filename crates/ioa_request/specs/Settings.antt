-- What the words of a command line say of a run.
use Rattle.std.specs.Prelude.{ℕ, ◌-◌, ◌^◌, List, Option, Some, None, replicate}
use Rattle.std.specs.Option.{option_map}
use Rattle.clap.specs.Words.{Text}
use Rattle.ioa_request.specs.declared.settings.WordsFrom.{WordsFrom}
use Rattle.ioa_request.specs.Keys.{key_in}
use Rattle.ioa_request.specs.Numerals.{numeral_in}

-- how many turns each worker has: a number of 64 bits
abbrev pub turns_in : Option Text → Option ℕ
turns_in None = Some 1000
turns_in (Some word) = numeral_in (2 ^ 64 - 1) word

-- where words come from: from a key, or from the file of this name
pub data Source : Type 0 where
  key : List ℕ → Source
  file : Text → Source

abbrev pub source_of : WordsFrom → Source
source_of (WordsFrom.Key bytes) = key bytes
source_of (WordsFrom.File name) = file name.now

-- by the word for a seed and that for a file: without both the key is of zeros, and there may not be both
abbrev pub source_in : Option Text → Option Text → Option Source
source_in None None = Some (key (replicate 32 0))
source_in None (Some name) = Some (file name)
source_in (Some digits) None = option_map key (key_in digits)
source_in (Some digits) (Some name) = None
