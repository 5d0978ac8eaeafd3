-- What the lexer finds at the front of a text.
use Rattle.std.specs.Prelude.{◌≡◌, ◌==◌, ◌&&◌, not, Bool, ℕ, List, ◌++◌, length, drop, Option, Some, None}
use Rattle.ioa_value.specs.Names.{is_letter, is_digit}
use Rattle.ioa_lex.specs.declared.token.Kind.{Kind}
use Rattle.ioa_lex.specs.declared.refusal.Refusal.{Refusal}
use Rattle.ioa_lex.specs.declared.refusal.Refusal.TheVariants as refusals
use Rattle.ioa_lex.specs.Tokens.{kind_shown}
use Rattle.ioa_lex.specs.Lexing.{is_blank, Piece, blank, comment, token, bytes_of, MayStandBefore, NoneStands}

-- a byte that begins no blank, comment, word or number
abbrev pub is_sign_part : ℕ → Bool
is_sign_part b = not (is_blank b) && not (b == 37) && not (is_letter b) && not (is_digit b)

-- the kind of the piece's token, if it is one
abbrev pub IsPiece : Option Kind → Piece → Type 0
IsPiece None (blank b) = Unit {0}
IsPiece None (comment c) = Unit {0}
IsPiece None (token w t) = ⊥
IsPiece (Some k) (blank b) = ⊥
IsPiece (Some k) (comment c) = ⊥
IsPiece (Some k) (token w t) = kind_shown k ≡ t

-- a piece of this length stands at the front of the text
pub record IsFront (text : List ℕ) (kind : Option Kind) (len : ℕ) : Type 0 where
  pub piece : Piece
  pub kept : IsPiece kind piece
  pub size : length (bytes_of piece) ≡ len
  pub split : text ≡ bytes_of piece ++ drop len text
  pub stands : MayStandBefore piece (drop len text)

-- why there is none, on this line
abbrev pub NoFront : List ℕ → ℕ → Refusal → Type 0
NoFront text line (refusals.BadByte n) = (n ≡ line) × NoneStands text
NoFront text line refusals.OutOfMemory = Unit {0}
NoFront text line _ = ⊥
