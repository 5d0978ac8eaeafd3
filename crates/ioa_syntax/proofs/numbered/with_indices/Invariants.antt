use Rattle.std.proofs.Common.{◌≡◌, take}
use Rattle.ioa_lex.specs.Tokens.{tokens_shown}
use Rattle.ioa_syntax.proofs.numbered.with_indices.Given as goal

abbrev pub invariant-loop-token : goal.invariant-loop-token
invariant-loop-token l = tokens_shown l.found.items ≡ tokens_shown (take l.token-index l.tokens)
