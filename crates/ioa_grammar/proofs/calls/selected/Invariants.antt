use Rattle.std.proofs.Common.{◌≡◌, ◌≤◌, ◌+◌, ◌-◌}
use Rattle.ioa_lex.specs.Tokens.{tokens_shown}
use Rattle.ioa_grammar.specs.Reading.{fields_from}
use Rattle.ioa_tree.specs.View.{expr_of}
use Rattle.ioa_grammar.proofs.calls.selected.Given as goal

abbrev pub invariant-loop-turn : goal.invariant-loop-turn
invariant-loop-turn l = record {
  same : fields_from l.depth (l.depth - l._turn) (expr_of l.whole.expression) (tokens_shown l.cursor) ≡ fields_from l.depth l.depth (expr_of l.fn.operand.expression) (tokens_shown l.fn.cursor);
  within : l.whole.depth ≤ l.depth + 1;
}
