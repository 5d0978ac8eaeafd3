use Rattle.std.proofs.Common.{◌≡◌, ◌-◌, map}
use Rattle.ioa_lex.specs.Tokens.{tokens_shown}
use Rattle.ioa_value.specs.declared.terminal.Terminal.TheVariants as terminals
use Rattle.ioa_grammar.specs.Reading.{always, items_from, position, separated}
use Rattle.ioa_tree.specs.View.{position_of}
use Rattle.ioa_declarations.proofs.signatures.position_list.Given as goal

abbrev pub invariant-loop-turn : goal.invariant-loop-turn
invariant-loop-turn l = items_from always terminals.Comma position (l._turn-end - l._turn) (map position_of l.found.items) (tokens_shown l.cursor) ≡ separated terminals.Comma position (tokens_shown l.initial.cursor)
