use Rattle.std.proofs.Common.{◌≡◌, ℕ, List, rules, sym, subst}
use Rattle.ioa_lex.specs.Tokens.{Tok}
use Rattle.ioa_lex.specs.Lexing.{Lexes}
use Rattle.ioa_grammar.specs.Grammar.{SpellsSource}
use Rattle.ioa_print.specs.Layout.{text_source}
use Rattle.ioa_syntax.specs.Source.{plain}
use Rattle.ioa_tree.specs.View.{tree_of}
use Rattle.ioa_print.proofs.Printed.{source_printed}
use Rattle.ioa_print.proofs.printing.print.Goals as goal

pub returns-clause-spelled : goal.returns-clause-spelled
returns-clause-spelled c =
    let laid : c.into_bytes.result.items ≡ text_source (tree_of c.args.source.now) = search rules in
    subst (λ (text : List ℕ). (ts : List (Tok × ℕ)) × Lexes text ts × SpellsSource (tree_of c.args.source.now) (plain ts)) (sym laid) (source_printed (tree_of c.args.source.now) c.declarations.ensures.kept)
