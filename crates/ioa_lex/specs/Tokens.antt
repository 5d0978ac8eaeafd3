-- Tokens without the memory that holds them.
use Rattle.std.specs.Prelude.{ℕ, List, map}
use Rattle.std.specs.String.{string_bytes}
use Rattle.ioa_value.specs.declared.terminal.Terminal.{Terminal}
use Rattle.ioa_lex.specs.declared.token.Kind.{Kind}
use Rattle.ioa_lex.specs.declared.token.Kind.TheVariants as kinds
use Rattle.ioa_lex.specs.declared.token.Token.{Token}

-- a number, a name by its bytes, or a reserved word or sign
pub data Tok : Type 0 where
  number : ℕ → Tok
  name : List ℕ → Tok
  terminal : Terminal → Tok

abbrev pub kind_shown : Kind → Tok
kind_shown (kinds.Number n) = number n
kind_shown (kinds.Name s) = name (string_bytes s)
kind_shown (kinds.Terminal t) = terminal t

-- the tokens that a grammar speaks of
abbrev pub tokens_shown : List Token → List Tok
tokens_shown ts = map (λ t. kind_shown t.kind) ts
