use Rattle.std.proofs.Common.{◌≡◌, ◌-◌, map}
use Rattle.ioa_value.specs.declared.limits.TheConstants.{LIMITS}
use Rattle.ioa_lex.specs.Tokens.{tokens_shown}
use Rattle.ioa_value.specs.declared.terminal.Terminal.TheVariants as terminals
use Rattle.ioa_grammar.specs.Reading.{items_from, always, expression, separated}
use Rattle.ioa_tree.specs.View.{expr_of}
use Rattle.ioa_declarations.proofs.compositions.argument_list.Given as goal

abbrev pub invariant-loop-turn : goal.invariant-loop-turn
invariant-loop-turn l = items_from always terminals.Comma (expression LIMITS.depth) (l._turn-end - l._turn) (map expr_of l.found.items) (tokens_shown l.cursor) ≡ separated terminals.Comma (expression LIMITS.depth) (tokens_shown l.initial.cursor)
