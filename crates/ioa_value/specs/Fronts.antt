-- Words and values at the front of a text without the memory that holds them.
use Rattle.std.specs.Prelude.{◌≡◌, ℕ, List}
use Rattle.ioa_value.specs.declared.tokens.Split.{Split}
use Rattle.ioa_value.specs.declared.scanning.Front.{Front}
use Rattle.ioa_value.specs.declared.scanning.Row.{Row}
use Rattle.ioa_value.specs.Plain.{Val, Vals, plain, plain_all}
use Rattle.ioa_value.specs.Tokens.{first_word, after_first}

-- the text's first word after blanks, and what follows it after blanks
abbrev pub Splits : Split → List ℕ → Type 0
Splits split text = (split.word.now ≡ first_word text) × (split.rest.now ≡ after_first text)

-- a value, and the text after it
abbrev pub front_of : Front → Val × List ℕ
front_of f = (plain f.value, f.rest.now)

-- values, and the text after them
abbrev pub row_of : Row → Vals × List ℕ
row_of r = (plain_all r.values.items, r.rest.now)
