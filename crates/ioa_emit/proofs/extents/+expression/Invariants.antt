use Rattle.std.proofs.Common.{◌≡◌, ◌+◌, drop}
use Rattle.ioa_tree.specs.View.{exprs_of}
use Rattle.ioa_emit.specs.Extents.{exprs_extent}
use Rattle.ioa_emit.proofs.extents.+expression.Given as goal

abbrev pub invariant-expressions_extent-loop-expression : goal.invariant-expressions_extent-loop-expression
invariant-expressions_extent-loop-expression l =
    l.total + exprs_extent (exprs_of (drop l.expression-index l.expressions)) ≡ exprs_extent (exprs_of l.expressions)
