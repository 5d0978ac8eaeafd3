use Rattle.std.proofs.Common.{◌≡◌, ◌+◌, ◌≤◌, drop, min}
use Rattle.ioa_value.specs.declared.limits.TheConstants.{LIMITS}
use Rattle.ioa_tree.specs.View.{exprs_of}
use Rattle.ioa_tree.specs.WellFormed as well_formed
use Rattle.ioa_rules.specs.Sizes.{all_counted}
use Rattle.ioa_rules.proofs.limits.+nodes.Given as goal

abbrev pub invariant-nodes_of_all-loop-expression : goal.invariant-nodes_of_all-loop-expression
invariant-nodes_of_all-loop-expression l =
    (l.count ≤ LIMITS.nodes + 1) × (min (l.count + well_formed.exprs_nodes (exprs_of (drop l.expression-index l.expressions))) (LIMITS.nodes + 1) ≡ all_counted (exprs_of l.expressions))
