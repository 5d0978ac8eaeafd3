use Rattle.std.proofs.Common.{◌≡◌, ◌+◌, ◌≤◌, drop}
use Rattle.ioa_value.specs.declared.limits.TheConstants.{LIMITS}
use Rattle.ioa_tree.specs.View.{stmts_of, arms_of}
use Rattle.ioa_tree.specs.WellFormed as well_formed
use Rattle.ioa_rules.proofs.limits.+counted.Given as goal

abbrev pub invariant-statements_counted-loop-statement : goal.invariant-statements_counted-loop-statement
invariant-statements_counted-loop-statement l = (l.count ≤ LIMITS.nodes) × (l.count + well_formed.stmts_nodes (stmts_of (drop l.statement-index l.statements)) ≡ l.before + well_formed.stmts_nodes (stmts_of l.statements))

abbrev pub invariant-arms_counted-loop-arm : goal.invariant-arms_counted-loop-arm
invariant-arms_counted-loop-arm l = (l.count ≤ LIMITS.nodes) × (l.count + well_formed.arms_nodes (arms_of (drop l.arm-index l.arms)) ≡ l.before + well_formed.arms_nodes (arms_of l.arms))
