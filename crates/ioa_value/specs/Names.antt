-- Names: a letter, then letters, digits or `_`, within the limit of bytes, and no reserved word.
use Rattle.std.specs.Prelude.{ℕ, Bool, false, not, ◌&&◌, ◌||◌, ◌==◌, nat_le, IsTrue, List, [], ◌∷◌, length, bytes_eq}
use Rattle.std.specs.List.{list_any, list_all}
use Rattle.ioa_value.specs.declared.terminal.Terminal.{Terminal}
use Rattle.ioa_value.specs.declared.terminal.Terminal.TheVariants as terminals
use Rattle.ioa_value.specs.Spelling.{spelling_of}
use Rattle.ioa_value.specs.declared.limits.TheConstants.{LIMITS}

abbrev pub is_letter : ℕ → Bool
is_letter b = (nat_le 65 b && nat_le b 90) || (nat_le 97 b && nat_le b 122)

abbrev pub is_digit : ℕ → Bool
is_digit b = nat_le 48 b && nat_le b 57

abbrev pub is_word_byte : ℕ → Bool
is_word_byte b = is_letter b || is_digit b || b == 95

-- the reserved words
unfoldable pub reserved : List Terminal
reserved =
    terminals.Type ∷ terminals.Enum ∷ terminals.Tuple ∷ terminals.Seq ∷ terminals.Of ∷ terminals.Invariant ∷ terminals.Automaton
    ∷ terminals.Signature ∷ terminals.States ∷ terminals.Transitions ∷ terminals.Input ∷ terminals.Output ∷ terminals.Internal ∷ terminals.Const
    ∷ terminals.True ∷ terminals.False ∷ terminals.Stable ∷ terminals.Pre ∷ terminals.Propose ∷ terminals.Any ∷ terminals.Eff
    ∷ terminals.If ∷ terminals.Then ∷ terminals.Elseif ∷ terminals.Else ∷ terminals.Fi ∷ terminals.Composition ∷ terminals.Components
    ∷ terminals.Hidden ∷ terminals.Crash ∷ terminals.Recover ∷ terminals.Div ∷ terminals.Mod ∷ terminals.Empty ∷ terminals.Len
    ∷ terminals.Head ∷ terminals.Tail ∷ terminals.Last ∷ terminals.Init ∷ terminals.Append ∷ terminals.At ∷ terminals.Member
    ∷ terminals.Without ∷ terminals.For ∷ terminals.In ∷ terminals.Do ∷ terminals.Od ∷ []

unfoldable pub is_reserved : List ℕ → Bool
is_reserved word = list_any (λ t. bytes_eq word (spelling_of t)) reserved

abbrev pub begins_with_letter : List ℕ → Bool
begins_with_letter [] = false
begins_with_letter (b ∷ bs) = is_letter b

-- whether the bytes are a name
unfoldable pub is_name : List ℕ → Bool
is_name text = begins_with_letter text && list_all is_word_byte text && nat_le (length text) LIMITS.name && not (is_reserved text)

abbrev pub IsName : List ℕ → Type 0
IsName text = IsTrue (is_name text)
