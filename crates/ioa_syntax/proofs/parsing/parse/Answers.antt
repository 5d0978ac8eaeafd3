use Rattle.std.proofs.Common.{◌≡◌, ◌≤◌, ℕ, List, length, arith, rules, sym, subst}
use Rattle.ioa_value.specs.declared.limits.TheConstants.{LIMITS}
use Rattle.ioa_lex.specs.declared.refusal.Refusal.TheVariants as refusals
use Rattle.ioa_lex.specs.declared.token.Token.{Token}
use Rattle.ioa_lex.specs.Tokens.{Tok, tokens_shown}
use Rattle.ioa_lex.specs.Lexing.{Lexes, placed}
use Rattle.ioa_grammar.specs.Grammar.{SpellsSource}
use Rattle.ioa_syntax.specs.Source.{AreTokens, plain}
use Rattle.ioa_syntax.proofs.Parsed.{short_of, lexed_tokens, parsed_as_read, parsed_found, parsed_refused, parsed_only, parsed_short}
use Rattle.ioa_syntax.proofs.parsing.parse.Goals as goal

pub parse_tokens-requires : goal.parse_tokens-requires
parse_tokens-requires c = subst (λ (ts : List Token). AreTokens (tokens_shown ts)) (sym c.deref.ensures.value) (lexed_tokens c.args.text.now c.in_ok-tokens.tokens.items c.in_ok-tokens.ensures.ok)

pub returns-in_err-tokens-clause-only : goal.returns-in_err-tokens-clause-only
returns-in_err-tokens-clause-only c = λ ts t lexes spelled deep small. let memory = c.in_err-tokens.ensures.only ts lexes small in search rules

pub returns-clause-found : goal.returns-clause-found
returns-clause-found c =
    let lexed : Lexes c.args.text.now (placed c.deref.result.now) = subst (λ (ts : List Token). Lexes c.args.text.now (placed ts)) (sym c.deref.ensures.value) c.in_ok-tokens.ensures.ok in
    let small : length c.args.text.now ≤ LIMITS.text = short_of c.in_ok-tokens.tokens refusals.TextTooLong (length c.args.text.now) c.in_ok-tokens.ensures.long.1 in
    parsed_found c.args.text.now c.deref.result.now c.last_line.result lexed c.last_line.ensures small c.parse_tokens.result c.parse_tokens.ensures

pub returns-clause-refused : goal.returns-clause-refused
returns-clause-refused c =
    let lexed : Lexes c.args.text.now (placed c.deref.result.now) = subst (λ (ts : List Token). Lexes c.args.text.now (placed ts)) (sym c.deref.ensures.value) c.in_ok-tokens.ensures.ok in
    let small : length c.args.text.now ≤ LIMITS.text = short_of c.in_ok-tokens.tokens refusals.TextTooLong (length c.args.text.now) c.in_ok-tokens.ensures.long.1 in
    parsed_refused c.args.text.now c.deref.result.now c.last_line.result lexed c.last_line.ensures small c.parse_tokens.result c.parse_tokens.ensures

pub returns-clause-long : goal.returns-clause-long
returns-clause-long c =
    let lexed : Lexes c.args.text.now (placed c.deref.result.now) = subst (λ (ts : List Token). Lexes c.args.text.now (placed ts)) (sym c.deref.ensures.value) c.in_ok-tokens.ensures.ok in
    let small : length c.args.text.now ≤ LIMITS.text = short_of c.in_ok-tokens.tokens refusals.TextTooLong (length c.args.text.now) c.in_ok-tokens.ensures.long.1 in
    (λ is. absurd (parsed_short c.args.text.now c.deref.result.now c.last_line.result lexed c.last_line.ensures small c.parse_tokens.result c.parse_tokens.ensures is), λ long. absurd (omega arith))

pub returns-clause-stops : goal.returns-clause-stops
returns-clause-stops c = λ line stops small. absurd (c.in_ok-tokens.ensures.stops line stops small)

pub returns-clause-only : goal.returns-clause-only
returns-clause-only c = λ ts t lexes spelled deep small.
    let lexed : Lexes c.args.text.now (placed c.deref.result.now) = subst (λ (ts : List Token). Lexes c.args.text.now (placed ts)) (sym c.deref.ensures.value) c.in_ok-tokens.ensures.ok in
    let same : placed c.deref.result.now ≡ ts = subst (λ (us : List Token). placed us ≡ ts) (sym c.deref.ensures.value) (c.in_ok-tokens.ensures.only ts lexes small) in
    parsed_only c.args.text.now c.deref.result.now c.last_line.result lexed c.last_line.ensures small c.parse_tokens.result c.parse_tokens.ensures t (subst (λ (us : List (Tok × ℕ)). SpellsSource t (plain us)) (sym same) spelled) deep

pub returns-in_err-tokens-clause-as_read : goal.returns-in_err-tokens-clause-as_read
returns-in_err-tokens-clause-as_read c = λ ts lexes small. let memory = c.in_err-tokens.ensures.only ts lexes small in search rules

pub returns-clause-as_read : goal.returns-clause-as_read
returns-clause-as_read c = λ ts lexes small.
    let lexed : Lexes c.args.text.now (placed c.deref.result.now) = subst (λ (ts : List Token). Lexes c.args.text.now (placed ts)) (sym c.deref.ensures.value) c.in_ok-tokens.ensures.ok in
    let same : placed c.deref.result.now ≡ ts = subst (λ (us : List Token). placed us ≡ ts) (sym c.deref.ensures.value) (c.in_ok-tokens.ensures.only ts lexes small) in
    parsed_as_read c.args.text.now c.deref.result.now c.last_line.result lexed c.last_line.ensures small c.parse_tokens.result c.parse_tokens.ensures ts same
