use denote.Param.Weighed.{most}
use Rattle.std.proofs.Common.{max, ◌*◌, ◌≡◌, ◌+◌, ◌<◌, ◌^◌, length, drop}
use Rattle.ioa_code.specs.Machine.{Listing}
use Rattle.ioa_code.specs.Parts.{listing}
use Rattle.ioa_tree.proofs.tree.Statement.TheLaws.{the_size}
use Rattle.ioa_tree.proofs.tree.Arm.TheLaws.{the_size as the_size_of_arm}
use Rattle.ioa_tree.specs.View.{stmts_of, arms_of}
use Rattle.ioa_tree.specs.WellFormed.{stmts_nodes, arms_nodes}
use Rattle.ioa_emit.specs.Extents.{stmts_extent, arms_extent}
use Rattle.ioa_emit.specs.Scopes.{AreKnown, AreKnownArms}
use Rattle.ioa_emit.specs.Emitting.{AddsStmts}
use Rattle.ioa_emit.proofs.Emitted.{AddsArms}
use Rattle.ioa_emit.proofs.emitter.+statements.Given as goal

-- a choice and a loop are ranked between their statement and its parts
abbrev pub decreases-emit_statement : goal.decreases-emit_statement
decreases-emit_statement l = 3 * goal.size-emit_statement l

abbrev pub decreases-emit_statements : goal.decreases-emit_statements
decreases-emit_statements l = 3 * goal.size-emit_statements l + 1

abbrev pub decreases-emit_choice : goal.decreases-emit_choice
decreases-emit_choice l = 3 * max (most the_size_of_arm l.arms.now) (most the_size l.others.now) + 2

abbrev pub decreases-emit_loop : goal.decreases-emit_loop
decreases-emit_loop l = 3 * most the_size l.body.now + 2

abbrev pub invariant-emit_statements-loop-statement : goal.invariant-emit_statements-loop-statement
invariant-emit_statements-loop-statement l = record {
  known : AreKnown l.scope (stmts_of (drop l.statement-index l.statements));
  room : length l.out.consts.items + stmts_nodes (stmts_of (drop l.statement-index l.statements)) < 2 ^ 16;
  short : length l.out.instrs.items + stmts_extent (stmts_of (drop l.statement-index l.statements)) < 2 ^ 16;
  rest : (new : Listing) → AddsStmts (listing l.scope.types l.out) new l.scope (stmts_of (drop l.statement-index l.statements)) → AddsStmts (listing l.scope.types l.fn.out) new l.scope (stmts_of l.statements);
}

abbrev pub invariant-emit_choice-loop-arm : goal.invariant-emit_choice-loop-arm
invariant-emit_choice-loop-arm l = record {
  known : AreKnownArms l.scope (arms_of (drop l.arm-index l.arms));
  room : length l.out.consts.items + (arms_nodes (arms_of (drop l.arm-index l.arms)) + stmts_nodes (stmts_of l.others)) < 2 ^ 16;
  ends : l.end ≡ length l.out.instrs.items + (arms_extent (arms_of (drop l.arm-index l.arms)) + stmts_extent (stmts_of l.others));
  rest : (new : Listing) → AddsArms (listing l.scope.types l.out) new l.scope (arms_of (drop l.arm-index l.arms)) (stmts_of l.others) → AddsArms (listing l.scope.types l.fn.out) new l.scope (arms_of l.arms) (stmts_of l.others);
}
