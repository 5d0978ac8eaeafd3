use Rattle.std.proofs.Common.{◌≡◌, map, drop}
use Rattle.std.specs.List.{list_all}
use Rattle.ioa_tree.specs.View.{arm_of, stmt_of}
use Rattle.ioa_rules.specs.Places.{stmt_fine, arm_fine}
use Rattle.ioa_rules.proofs.statements.+statements.Given as goal

abbrev pub invariant-statements_fine-loop-statement : goal.invariant-statements_fine-loop-statement
invariant-statements_fine-loop-statement l = list_all (stmt_fine l.place) (map stmt_of (drop l.statement-index l.statements)) ≡ list_all (stmt_fine l.place) (map stmt_of l.statements)

abbrev pub invariant-arms_fine-loop-arm : goal.invariant-arms_fine-loop-arm
invariant-arms_fine-loop-arm l = list_all (arm_fine l.place) (map arm_of (drop l.arm-index l.arms)) ≡ list_all (arm_fine l.place) (map arm_of l.arms)
