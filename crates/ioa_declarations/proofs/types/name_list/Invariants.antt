use Rattle.std.proofs.Common.{◌≡◌, ◌-◌, map}
use Rattle.ioa_lex.specs.Tokens.{tokens_shown}
use Rattle.ioa_value.specs.declared.terminal.Terminal.TheVariants as terminals
use Rattle.ioa_grammar.specs.Reading.{always, a_name, items_from, separated}
use Rattle.ioa_tree.specs.View.{name_of}
use Rattle.ioa_declarations.proofs.types.name_list.Given as goal

abbrev pub invariant-loop-turn : goal.invariant-loop-turn
invariant-loop-turn l = items_from always terminals.Comma a_name (l._turn-end - l._turn) (map name_of l.found.items) (tokens_shown l.cursor) ≡ separated terminals.Comma a_name (tokens_shown l.initial.cursor)
