-- What a source is, and why a text is none.
use Rattle.std.specs.Prelude.{◌≡◌, ℕ, ◌<◌, ◌≤◌, List, [], ◌∷◌, ◌++◌, ◌-◌, drop, length, map}
use Rattle.ioa_lex.specs.declared.refusal.Refusal.{Refusal}
use Rattle.ioa_lex.specs.declared.refusal.Refusal.TheVariants as refusals
use Rattle.ioa_value.specs.declared.limits.TheConstants.{LIMITS}
use Rattle.ioa_lex.specs.Tokens.{Tok}
use Rattle.ioa_lex.specs.Spaced.{IsToken}
use Rattle.ioa_lex.specs.Lexing as lexing
use Rattle.ioa_lex.specs.Lexing.{Lexes, line_after}
use Rattle.ioa_tree.specs.Tree.{DeclarationTree, SourceTree}
use Rattle.ioa_tree.specs.Depth.{deep, source_deep}
use Rattle.ioa_grammar.specs.Grammar.{SpellsSource, IsDeadEnd}

-- texts can hold each of the tokens: names are legal, and numbers not too large
abbrev pub AreTokens : List Tok → Type 0
AreTokens [] = Unit {0}
AreTokens (t ∷ ts) = IsToken t × AreTokens ts

-- some tokens spell it, and it is at most as deep as the limit
abbrev pub IsSource : SourceTree → Type 0
IsSource t = ((ts : List Tok) × AreTokens ts × SpellsSource t ts) × (source_deep t ≤ LIMITS.depth)

-- tokens without their lines
abbrev pub plain : List (Tok × ℕ) → List Tok
plain ts = map (λ t. t.0) ts

-- the line of the first of the tokens, or of the end of the text
abbrev pub line_of : List ℕ → List (Tok × ℕ) → ℕ
line_of text [] = line_after text
line_of text (t ∷ ts) = t.1

-- the line of the token where so many are left, or of the end of the text
abbrev pub line_left : List ℕ → List (Tok × ℕ) → ℕ → ℕ
line_left text ts left = line_of text (drop (length ts - left) ts)

-- No source begins with the text's tokens up to one on this line, or none ends with them on the last line.
abbrev pub IsStuckOn : List ℕ → ℕ → Type 0
IsStuckOn text line = (front : List (Tok × ℕ)) × (rest : List (Tok × ℕ)) × Lexes text (front ++ rest) × (line ≡ line_of text rest) × IsDeadEnd (plain front) (plain rest)

-- the first declaration of the tree that is deeper than the limit begins on this line
pub record BeginsTooDeep (text : List ℕ) (ts : List (Tok × ℕ)) (t : SourceTree) (line : ℕ) : Type 0 where
  pub before : SourceTree
  pub too_deep : DeclarationTree
  pub after : SourceTree
  pub front : List (Tok × ℕ)
  pub rest : List (Tok × ℕ)
  pub is : t ≡ before ++ too_deep ∷ after
  pub apart : ts ≡ front ++ rest
  pub spells : SpellsSource before (plain front)
  pub goes_on : SpellsSource (too_deep ∷ after) (plain rest)
  pub within : source_deep before ≤ LIMITS.depth
  pub beyond : LIMITS.depth < deep too_deep
  pub on : line ≡ line_of text rest

-- The tokens are more than the limit of depth. A tree that they spell, if there is one, is too deep, first on this line.
abbrev pub IsTooDeepOn : List ℕ → ℕ → Type 0
IsTooDeepOn text line = (ts : List (Tok × ℕ)) × Lexes text ts × (LIMITS.depth < length ts) × ((t : SourceTree) → SpellsSource t (plain ts) → BeginsTooDeep text ts t line)

-- why a text is no source
abbrev pub IsRefused : List ℕ → Refusal → Type 0
IsRefused text (refusals.Syntax line) = (length text ≤ LIMITS.text) × IsStuckOn text line
IsRefused text (refusals.TooDeep line) = (length text ≤ LIMITS.text) × IsTooDeepOn text line
IsRefused text e = lexing.IsRefused text e
