-- From the tokens of a text to where they are no source.
use Rattle.std.proofs.Common.{◌≡◌, ℕ, List, None, sym, subst, ◌∙◌, ap}
use Rattle.ioa_lex.specs.declared.token.Token.{Token}
use Rattle.ioa_lex.specs.Lexing.{Lexes, placed}
use Rattle.ioa_lex.specs.Tokens.{Tok, tokens_shown}
use Rattle.ioa_lex.proofs.Covers.{same_tokens}
use Rattle.ioa_lex.proofs.Placed.{shown_of_placed}
use Rattle.ioa_grammar.specs.DeadEnds.{IsDeadAt, IsStuckAt}
use Rattle.ioa_syntax.specs.Source.{plain}
use Rattle.ioa_syntax.specs.Stuck.{IsStuckIn}

pub stuck_of : (text : List ℕ) (ts : List Token) (at : ℕ) → Lexes text (placed ts) → IsStuckAt (tokens_shown ts) at → IsStuckIn text (placed ts) at
stuck_of text ts at lexed stuck = record { lexes = lexed; stuck = subst (λ (us : List Tok). IsStuckAt us at) (sym (shown_of_placed ts)) stuck }

pub never_stuck : (text : List ℕ) (ts : List Token) → Lexes text (placed ts) → IsDeadAt (tokens_shown ts) None → (us : List (Tok × ℕ)) → Lexes text us → IsDeadAt (plain us) None
never_stuck text ts lexed none us other =
    let same : tokens_shown ts ≡ plain us = sym (shown_of_placed ts) ∙ ap plain (same_tokens text (placed ts) us lexed other) in
    subst (λ (vs : List Tok). IsDeadAt vs None) same none
