use Rattle.std.proofs.Common.{◌≡◌, ap, sym, ◌∙◌, subst}
use Rattle.ioa_lex.specs.Tokens.{tokens_shown}
use Rattle.ioa_grammar.specs.Reading.{line_at}
use Rattle.ioa_syntax.specs.Source.{AreTokens}
use Rattle.ioa_syntax.proofs.NumberedLemmas.{numbered_of}
use Rattle.ioa_syntax.proofs.Parsed.{lexed_tokens}
use Rattle.ioa_syntax.proofs.numbered.parse_numbered.Goals as goal

pub parse_tokens-requires : goal.parse_tokens-requires
parse_tokens-requires c =
    let same : tokens_shown c.as_slice-2.result.now ≡ tokens_shown c.in_ok-tokens.tokens.items = ap tokens_shown c.as_slice-2.ensures.value ∙ (c.in_ok-numbered.ensures ∙ ap tokens_shown c.as_slice.ensures.value) in
    subst AreTokens (sym same) (lexed_tokens c.args.text.now c.in_ok-tokens.tokens.items c.in_ok-tokens.ensures.ok)

pub returns : goal.returns
returns c =
    let same : tokens_shown c.as_slice-2.result.now ≡ tokens_shown c.in_ok-tokens.tokens.items = ap tokens_shown c.as_slice-2.ensures.value ∙ (c.in_ok-numbered.ensures ∙ ap tokens_shown c.as_slice.ensures.value) in
    numbered_of c.args.text.now c.in_ok-tokens.tokens.items c.as_slice-2.result.now (line_at c.as_slice-2.result.now 4294967295) _ c.in_ok-tokens.ensures.ok same c.in_ok-source.ensures
