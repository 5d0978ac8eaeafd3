use Rattle.std.proofs.Common.{◌≡◌, ◌-◌, map}
use Rattle.ioa_value.specs.declared.limits.TheConstants.{LIMITS}
use Rattle.ioa_lex.specs.Tokens.{tokens_shown}
use Rattle.ioa_grammar.specs.Reading.{many_from, sees_kind, transition, transitions}
use Rattle.ioa_tree.specs.View.{transition_of}
use Rattle.ioa_declarations.proofs.transitions.transitions.Given as goal

abbrev pub invariant-loop-turn : goal.invariant-loop-turn
invariant-loop-turn l = many_from sees_kind (transition LIMITS.depth) (l._turn-end - l._turn) (map transition_of l.found.items) (tokens_shown l.cursor) ≡ transitions LIMITS.depth (tokens_shown l.initial.cursor)
