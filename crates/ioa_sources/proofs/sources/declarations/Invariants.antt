use Rattle.std.proofs.Common.{◌≡◌, ◌-◌}
use Rattle.ioa_value.specs.declared.limits.TheConstants.{LIMITS}
use Rattle.ioa_lex.specs.Tokens.{tokens_shown}
use Rattle.ioa_grammar.specs.Reading.{source_from, source, line_at}
use Rattle.ioa_tree.specs.View.{tree_of}
use Rattle.ioa_sources.proofs.sources.declarations.Given as goal

abbrev pub invariant-loop-turn : goal.invariant-loop-turn
invariant-loop-turn l = source_from LIMITS.depth (line_at l.tokens l.end) (l._turn-end - l._turn) (tree_of l.found.items) (tokens_shown l.cursor) ≡ source LIMITS.depth (line_at l.tokens l.end) (tokens_shown l.tokens)
