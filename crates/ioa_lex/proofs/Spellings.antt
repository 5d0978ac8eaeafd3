-- Reserved words are words, and signs are signs.
use Rattle.std.proofs.Common.{◌≡◌, ℕ, Bool, true, false, ◌&&◌, ◌||◌, nat_le, List, [], ◌∷◌, length, refl}
use Rattle.std.specs.List.{list_all}
use Rattle.ioa_value.specs.declared.terminal.Terminal.{Terminal}
use Rattle.ioa_value.specs.declared.terminal.Terminal.TheVariants as terminals
use Rattle.ioa_value.specs.Spelling.{spelling_of}
use Rattle.ioa_lex.specs.Lexing.{is_word}
use Rattle.ioa_lex.specs.Fronts.{is_sign_part}

abbrev pub is_sign : List ℕ → Bool
is_sign [] = false
is_sign (b ∷ bs) = list_all is_sign_part (b ∷ bs) && nat_le (length (b ∷ bs)) 2

pub word_or_sign : (t : Terminal) → (is_word (spelling_of t) || is_sign (spelling_of t)) ≡ true
word_or_sign terminals.Type = refl
word_or_sign _ = refl
