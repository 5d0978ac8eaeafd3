use Rattle.std.proofs.Common.{◌≡◌, map, take}
use Rattle.ioa_tree.specs.View.{expr_of}
use Rattle.ioa_crash.proofs.copies.+expression.Given as goal

abbrev pub invariant-copied_expressions-loop-expression : goal.invariant-copied_expressions-loop-expression
invariant-copied_expressions-loop-expression l = map expr_of l.out.items ≡ map expr_of (take l.expression-index l.expressions)
