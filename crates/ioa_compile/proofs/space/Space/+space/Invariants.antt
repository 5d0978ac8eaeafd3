use Rattle.std.proofs.Common.{◌≡◌, ◌+◌, drop}
use Rattle.ioa_tree.specs.View.{exprs_of}
use Rattle.ioa_tree.specs.WellFormed.{exprs_nodes}
use Rattle.ioa_emit.specs.Extents.{exprs_extent}
use Rattle.ioa_compile.proofs.space.Space.+space.Given as goal

abbrev pub invariant-after_all-loop-expression : goal.invariant-after_all-loop-expression
invariant-after_all-loop-expression l =
    (l.left.nodes + exprs_nodes (exprs_of l.expressions) ≡ l.initial.left.nodes + exprs_nodes (exprs_of (drop l.expression-index l.expressions)))
    × (l.left.places + exprs_extent (exprs_of l.expressions) ≡ l.initial.left.places + exprs_extent (exprs_of (drop l.expression-index l.expressions)))
