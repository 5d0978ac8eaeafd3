use Rattle.std.proofs.Common.{◌≡◌, ◌+◌, drop}
use Rattle.ioa_tree.specs.View.{stmts_of, arms_of}
use Rattle.ioa_emit.specs.Extents.{stmts_extent, arms_extent}
use Rattle.ioa_emit.proofs.extents.+statements.Given as goal

abbrev pub invariant-statements_extent-loop-statement : goal.invariant-statements_extent-loop-statement
invariant-statements_extent-loop-statement l =
    l.total + stmts_extent (stmts_of (drop l.statement-index l.statements)) ≡ stmts_extent (stmts_of l.statements)

abbrev pub invariant-arms_extent-loop-arm : goal.invariant-arms_extent-loop-arm
invariant-arms_extent-loop-arm l =
    l.total + arms_extent (arms_of (drop l.arm-index l.arms)) ≡ arms_extent (arms_of l.arms)
