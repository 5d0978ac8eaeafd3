use Rattle.std.proofs.Common.{◌+◌, ◌<◌, ◌^◌, length, drop}
use Rattle.ioa_code.specs.Machine.{Listing}
use Rattle.ioa_code.specs.Parts.{listing}
use Rattle.ioa_tree.specs.View.{exprs_of}
use Rattle.ioa_tree.specs.WellFormed.{exprs_nodes}
use Rattle.ioa_emit.specs.Extents.{exprs_extent}
use Rattle.ioa_emit.specs.Scopes.{AreAllKnown}
use Rattle.ioa_emit.specs.Emitting.{AddsExprs}
use Rattle.ioa_emit.proofs.emitter.+expression.Given as goal

abbrev pub invariant-emit_expressions-loop-expression : goal.invariant-emit_expressions-loop-expression
invariant-emit_expressions-loop-expression l = record {
  known : AreAllKnown l.scope (exprs_of (drop l.expression-index l.expressions));
  room : length l.out.consts.items + exprs_nodes (exprs_of (drop l.expression-index l.expressions)) < 2 ^ 16;
  short : length l.out.instrs.items + exprs_extent (exprs_of (drop l.expression-index l.expressions)) < 2 ^ 16;
  rest : (new : Listing) → AddsExprs (listing l.scope.types l.out) new l.scope (exprs_of (drop l.expression-index l.expressions)) → AddsExprs (listing l.scope.types l.fn.out) new l.scope (exprs_of l.expressions);
}
