use Rattle.std.proofs.Common.{◌≡◌, ◌*◌, ◌+◌, map, drop}
use Rattle.ioa_value.specs.Plain.{plain}
use Rattle.ioa_tree.specs.View.{expr_of, exprs_of}
use Rattle.ioa_tree.specs.Instances.{all_values}
use Rattle.ioa_tree.specs.WellFormed.{nodes, exprs_nodes}
use Rattle.ioa_compose.specs.Bindings.{start_of}
use Rattle.ioa_coverage.specs.Known.{known}
use Rattle.ioa_compose.proofs.ValueLemmas.{prepended}
use Rattle.ioa_coverage.proofs.values.+evaluate.Given as goal

abbrev pub decreases-evaluate : goal.decreases-evaluate
decreases-evaluate l = 2 * nodes (expr_of l.expression.now)

-- an expression has no more nodes than those of which it is one
abbrev pub decreases-evaluate_all : goal.decreases-evaluate_all
decreases-evaluate_all l = 2 * exprs_nodes (exprs_of l.expressions.now) + 1

abbrev pub invariant-evaluate_all-loop-expression : goal.invariant-evaluate_all-loop-expression
invariant-evaluate_all-loop-expression l =
    let start = start_of l.types (known l.scope) in
    prepended (map plain l.found.items) (all_values start (map expr_of (drop l.expression-index l.expressions))) ≡ all_values start (map expr_of l.expressions)
