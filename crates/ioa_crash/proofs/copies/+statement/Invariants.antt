use Rattle.std.proofs.Common.{◌≡◌, map, take}
use Rattle.ioa_tree.specs.View.{stmt_of}
use Rattle.ioa_tree.specs.View.{arm_of}
use Rattle.ioa_crash.proofs.copies.+statement.Given as goal

abbrev pub invariant-copied_statements-loop-statement : goal.invariant-copied_statements-loop-statement
invariant-copied_statements-loop-statement l = map stmt_of l.out.items ≡ map stmt_of (take l.statement-index l.statements)

abbrev pub invariant-copied_arms-loop-arm : goal.invariant-copied_arms-loop-arm
invariant-copied_arms-loop-arm l = map arm_of l.out.items ≡ map arm_of (take l.arm-index l.arms)
