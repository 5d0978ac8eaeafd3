-- Where a text that is no list of tokens stops.
use Rattle.std.specs.Prelude.{ℕ, ◌<◌, List, Option, Some, None, length, drop}
use Rattle.ioa_lex.specs.Tokens.{Tok}
use Rattle.ioa_lex.specs.Lexing.{Piece, Covers, NoneStands, Lexes}

-- the text is pieces up to this place, and there it goes on and none stands
pub record StopsAt (text : List ℕ) (at : ℕ) : Type 0 where
  pub pieces : List Piece
  pub covers : Covers pieces text (drop at text)
  pub goes_on : at < length text
  pub none : NoneStands (drop at text)

-- that place, or that there is none, since the text is a list of tokens
abbrev pub IsStop : List ℕ → Option ℕ → Type 0
IsStop text (Some at) = StopsAt text at
IsStop text None = (ts : List (Tok × ℕ)) × Lexes text ts
