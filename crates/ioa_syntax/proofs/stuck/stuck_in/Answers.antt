use Rattle.std.proofs.Common.{List, None, subst}
use Rattle.ioa_lex.specs.declared.token.Token.{Token}
use Rattle.ioa_lex.specs.Lexing.{Lexes, placed}
use Rattle.ioa_lex.specs.Tokens.{tokens_shown}
use Rattle.ioa_grammar.specs.DeadEnds.{IsDeadAt, IsStuckAt}
use Rattle.ioa_syntax.proofs.StuckLemmas.{stuck_of, never_stuck}
use Rattle.ioa_syntax.proofs.stuck.stuck_in.Goals as goal

pub returns-in_default-clause-none : goal.returns-in_default-clause-none
returns-in_default-clause-none c = λ ts lexes short. let none = rw c.in_default.is at c.in_ok-tokens.ensures in absurd (none ts lexes short)

pub returns-in-Some-2-clause-some : goal.returns-in-Some-2-clause-some
returns-in-Some-2-clause-some c =
    let lexed : Lexes c.args.text.now (placed c.in-Some.tokens.items) = rw c.in-Some.is at c.in_ok-tokens.ensures in
    let found : IsStuckAt (tokens_shown c.as_slice.result.now) c.in-Some-2.at = rw c.in-Some-2.is at c.in_ok-at.ensures in
    stuck_of c.args.text.now c.in-Some.tokens.items c.in-Some-2.at lexed (subst (λ (ts : List Token). IsStuckAt (tokens_shown ts) c.in-Some-2.at) c.as_slice.ensures.value found)

pub returns-in-None-clause-none : goal.returns-in-None-clause-none
returns-in-None-clause-none c = λ ts lexes short.
    let lexed : Lexes c.args.text.now (placed c.in-Some.tokens.items) = rw c.in-Some.is at c.in_ok-tokens.ensures in
    let found : IsDeadAt (tokens_shown c.as_slice.result.now) None = rw c.in-None.is at c.in_ok-at.ensures in
    never_stuck c.args.text.now c.in-Some.tokens.items lexed (subst (λ (ts : List Token). IsDeadAt (tokens_shown ts) None) c.as_slice.ensures.value found) ts lexes
