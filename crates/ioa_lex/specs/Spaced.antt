-- Tokens written one after the other, with a blank after each: one of the texts that lex to them.
use Rattle.std.specs.Prelude.{◌≡◌, ℕ, ◌≤◌, IsTrue, List, [], ◌∷◌, ◌++◌}
use Rattle.std.specs.Fmt.{decimal}
use Rattle.ioa_value.specs.Names.{IsName}
use Rattle.ioa_value.specs.Spelling.{spelling_of}
use Rattle.ioa_lex.specs.Tokens.{Tok, number, name, terminal}
use Rattle.ioa_lex.specs.Lexing.{is_blank}

-- the shortest text of a token
abbrev pub text_of : Tok → List ℕ
text_of (number n) = decimal n
text_of (name s) = s
text_of (terminal t) = spelling_of t

-- a text can hold the token
abbrev pub IsToken : Tok → Type 0
IsToken (number n) = n ≤ 9223372036854775807
IsToken (name s) = IsName s
IsToken (terminal t) = Unit {0}

abbrev pub Spaced : List Tok → List ℕ → Type 0
Spaced [] text = text ≡ []
Spaced (t ∷ ts) text =
    (b : ℕ) × (rest : List ℕ) × IsToken t × IsTrue (is_blank b) × (text ≡ text_of t ++ b ∷ rest) × Spaced ts rest
