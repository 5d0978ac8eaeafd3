-- Where the tokens of a text are no source, and sources whose lines are tokens.
use Rattle.std.specs.Prelude.{ℕ, List}
use Rattle.ioa_lex.specs.Lexing.{Lexes}
use Rattle.ioa_lex.specs.Tokens.{Tok}
use Rattle.ioa_tree.specs.Tree.{SourceTree}
use Rattle.ioa_grammar.specs.DeadEnds.{IsStuckAt}
use Rattle.ioa_grammar.specs.Grammar.{SpellsSource}
use Rattle.ioa_syntax.specs.Source.{plain}

-- These are the tokens of the text, and no source goes on with the one of this index, from which the refusal's line comes.
pub record IsStuckIn (text : List ℕ) (ts : List (Tok × ℕ)) (at : ℕ) : Type 0 where
  pub lexes : Lexes text ts
  pub stuck : IsStuckAt (plain ts) at

-- these are the tokens of the text, and they spell the source
pub record IsNumbered (text : List ℕ) (ts : List (Tok × ℕ)) (t : SourceTree) : Type 0 where
  pub lexes : Lexes text ts
  pub spells : SpellsSource t (plain ts)
