use Rattle.std.proofs.Common.{◌≡◌, ◌≤◌, ◌+◌, ◌-◌, ◌*◌, map}
use Rattle.ioa_lex.specs.Tokens.{tokens_shown}
use Rattle.ioa_value.specs.declared.terminal.Terminal.TheVariants as terminals
use Rattle.ioa_grammar.specs.Reading.{climb, expr, items_from, always, separated}
use Rattle.ioa_tree.specs.Depth.{exprs_depth}
use Rattle.ioa_tree.specs.View.{expr_of, exprs_of}
use Rattle.ioa_grammar.proofs.+expression.Given as goal

abbrev pub decreases-expressions::climb : goal.decreases-expressions::climb
decreases-expressions::climb l = 7 * l.depth + 1

abbrev pub decreases-expressions::expression : goal.decreases-expressions::expression
decreases-expressions::expression l = 7 * l.depth

abbrev pub decreases-expressions::first : goal.decreases-expressions::first
decreases-expressions::first l = 7 * l.depth + 6

abbrev pub decreases-expressions::operand : goal.decreases-expressions::operand
decreases-expressions::operand l = 7 * l.depth + 5

abbrev pub decreases-expressions::primary : goal.decreases-expressions::primary
decreases-expressions::primary l = 7 * l.depth + 4

abbrev pub decreases-calls::after_name : goal.decreases-calls::after_name
decreases-calls::after_name l = 7 * l.depth + 2

abbrev pub decreases-calls::fields : goal.decreases-calls::fields
decreases-calls::fields l = 7 * l.depth + 1

abbrev pub decreases-calls::around : goal.decreases-calls::around
decreases-calls::around l = 7 * l.depth + 3

abbrev pub decreases-calls::around_one : goal.decreases-calls::around_one
decreases-calls::around_one l = 7 * l.depth + 2

abbrev pub decreases-calls::around_two : goal.decreases-calls::around_two
decreases-calls::around_two l = 7 * l.depth + 2

abbrev pub decreases-calls::parentheses : goal.decreases-calls::parentheses
decreases-calls::parentheses l = 7 * l.depth + 1

abbrev pub decreases-calls::pair : goal.decreases-calls::pair
decreases-calls::pair l = 7 * l.depth + 1

abbrev pub invariant-expressions::climb-loop-turn : goal.invariant-expressions::climb-loop-turn
invariant-expressions::climb-loop-turn l = record {
  same : climb l.depth (expr l.depth) (l.depth - l._turn) l.least l.below (expr_of l.left.expression) (tokens_shown l.cursor) ≡ climb l.depth (expr l.depth) l.depth l.least l.fn.first.1 (expr_of l.fn.first.0.expression) (tokens_shown l.fn.cursor);
  within : l.left.depth ≤ l.depth + 1;
}

abbrev pub invariant-calls::fields-loop-turn : goal.invariant-calls::fields-loop-turn
invariant-calls::fields-loop-turn l = record {
  same : items_from always terminals.Comma (expr l.depth 0) (l._turn-end - l._turn) (map expr_of l.found.items) (tokens_shown l.cursor) ≡ separated terminals.Comma (expr l.depth 0) (tokens_shown l.initial.cursor);
  exact : l.deepest ≡ exprs_depth (exprs_of l.found.items);
  within : l.deepest ≤ l.depth;
}
