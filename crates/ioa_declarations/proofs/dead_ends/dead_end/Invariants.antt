use Rattle.std.proofs.Common.{◌-◌}
use Rattle.ioa_lex.specs.Tokens.{tokens_shown}
use Rattle.ioa_declarations.proofs.Stopped.{IsReadTo}
use Rattle.ioa_declarations.proofs.dead_ends.dead_end.Given as goal

abbrev pub invariant-loop-turn : goal.invariant-loop-turn
invariant-loop-turn l = IsReadTo (tokens_shown l.tokens) (l._turn-end - l._turn) (tokens_shown l.cursor)
