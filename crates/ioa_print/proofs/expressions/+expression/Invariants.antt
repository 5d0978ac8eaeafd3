use Rattle.std.proofs.Common.{◌≡◌, ◌++◌, map, take}
use Rattle.std.specs.String.{string_bytes}
use Rattle.ioa_value.specs.declared.terminal.Terminal.TheVariants as terminals
use Rattle.ioa_print.specs.Layout.{space, text_expr, text_more}
use Rattle.ioa_tree.specs.View.{expr_of}
use Rattle.ioa_print.proofs.expressions.+expression.Given as goal

abbrev pub invariant-more_expressions-loop-each : goal.invariant-more_expressions-loop-each
invariant-more_expressions-loop-each l = string_bytes l.text ≡ string_bytes l.initial.text ++ text_more terminals.Comma (text_expr space) (map expr_of (take l.each-index l.expressions))
