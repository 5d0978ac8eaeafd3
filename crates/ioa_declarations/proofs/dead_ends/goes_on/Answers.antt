use Rattle.std.proofs.Common.{◌≡◌, ◌≤◌, ◌∷◌, [], ◌++◌, List, length, ap, ◌∙◌, subst, arith}
use Rattle.std.proofs.lemmas.Bool.Decides.{nat_tests}
use Rattle.std.proofs.lemmas.List.{length-map, map_push}
use Rattle.ioa_lex.specs.declared.token.Token.{Token}
use Rattle.ioa_lex.specs.Tokens.{Tok, tokens_shown, kind_shown}
use Rattle.ioa_grammar.specs.DeadEnds.{IsStuckAt}
use Rattle.ioa_declarations.proofs.Stopped.{dead_before}
use Rattle.ioa_declarations.proofs.dead_ends.goes_on.Goals as goal

pub returns-in-Some-clause-none : goal.returns-in-Some-clause-none
returns-in-Some-clause-none c = λ may.
    let items = c.args.tokens.now.items in
    let tried : Token = record { kind = c.args.kind; line = 0 } in
    let whole : tokens_shown c.as_slice.result.now ≡ tokens_shown items ++ kind_shown c.args.kind ∷ [] = ap tokens_shown (c.as_slice.ensures.value ∙ c.in_ok-push.ensures.items) ∙ map_push (λ (t : Token). kind_shown t.kind) items tried in
    let found : IsStuckAt (tokens_shown c.as_slice.result.now) c.in-Some.at = rw c.in-Some.is at c.in_ok-found.ensures in
    let stuck = subst (λ (ts : List Tok). IsStuckAt ts c.in-Some.at) whole found in
    let near : c.in-Some.at ≤ length (tokens_shown items) = grind (arith, nat_tests, c.len-next.ensures, length-map items (λ t. kind_shown t.kind)) in
    dead_before (tokens_shown items) (kind_shown c.args.kind) c.in-Some.at near stuck.dead
