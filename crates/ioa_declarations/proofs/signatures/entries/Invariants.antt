use Rattle.std.proofs.Common.{◌≡◌, ◌-◌, map}
use Rattle.ioa_lex.specs.Tokens.{tokens_shown}
use Rattle.ioa_value.specs.declared.terminal.Terminal.TheVariants as terminals
use Rattle.ioa_grammar.specs.Reading.{entries, entry, items_from, sees_kind}
use Rattle.ioa_tree.specs.View.{entry_of}
use Rattle.ioa_declarations.proofs.signatures.entries.Given as goal

abbrev pub invariant-loop-turn : goal.invariant-loop-turn
invariant-loop-turn l = items_from sees_kind terminals.Semicolon entry (l._turn-end - l._turn) (map entry_of l.found.items) (tokens_shown l.cursor) ≡ entries (tokens_shown l.initial.cursor)
