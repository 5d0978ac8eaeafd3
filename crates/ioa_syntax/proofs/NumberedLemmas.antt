-- Tokens whose lines are others spell the same source.
use Rattle.std.proofs.Common.{◌≡◌, ℕ, List, Ok, sym, subst, ◌∙◌}
use Rattle.ioa_value.specs.declared.limits.TheConstants.{LIMITS}
use Rattle.ioa_lex.specs.declared.token.Token.{Token}
use Rattle.ioa_lex.specs.Lexing.{Lexes, placed}
use Rattle.ioa_lex.specs.Tokens.{tokens_shown}
use Rattle.ioa_tree.specs.Tree.{SourceTree}
use Rattle.ioa_grammar.specs.Grammar.{SpellsSource}
use Rattle.ioa_grammar.specs.Reading.{source}
use Rattle.ioa_declarations.proofs.Whole.{source_found}
use Rattle.ioa_syntax.specs.Stuck.{IsNumbered}
use Rattle.ioa_lex.proofs.Placed.{shown_of_placed}

pub numbered_of : (text : List ℕ) (ts us : List Token) (lines : ℕ → ℕ) (t : SourceTree) → Lexes text (placed ts) → tokens_shown us ≡ tokens_shown ts → source LIMITS.depth lines (tokens_shown us) ≡ Ok t → IsNumbered text (placed ts) t
numbered_of text ts us lines t lexed same read =
    let spelled : SpellsSource t (tokens_shown us) = (source_found LIMITS.depth lines (tokens_shown us) t read).0 in
    record { lexes = lexed; spells = subst (SpellsSource t) (same ∙ sym (shown_of_placed ts)) spelled }
