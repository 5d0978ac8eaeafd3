-- Tokens with their lines, and without.
use Rattle.std.proofs.Common.{◌≡◌, List, [], ◌∷◌, map, refl, ap}
use Rattle.ioa_lex.specs.declared.token.Token.{Token}
use Rattle.ioa_lex.specs.Tokens.{kind_shown, tokens_shown}
use Rattle.ioa_lex.specs.Lexing.{placed}

pub shown_of_placed : (ts : List Token) → map (λ u. u.0) (placed ts) ≡ tokens_shown ts
shown_of_placed [] = refl
shown_of_placed (t ∷ ts) = ap (λ us. kind_shown t.kind ∷ us) (shown_of_placed ts)
