use Rattle.std.proofs.Common.{arith, ◌≤◌, ◌∙◌, ap, sym}
use Rattle.ioa_tree.specs.Depth.{depth_of}
use Rattle.ioa_tree.specs.View.{expr_of}
use Rattle.ioa_grammar.proofs.Climb.{fields_turn}
use Rattle.ioa_grammar.proofs.calls.selected.Goals as goal

pub loop-turn-preserved : goal.loop-turn-preserved
loop-turn-preserved c = record {
  same =
      let fits : depth_of (expr_of c.loop-turn.whole.expression) ≤ c.args.depth = omega (arith, c.loop-turn.whole.exact) in
      fields_turn c.args.depth c.loop-turn._turn _ _ _ _ _ _ (omega arith) (sym c.take.ensures.found ∙ c.if-not-take.false) c.take.ensures.after fits c.in_ok-name.ensures c.in_ok-whole.ensures ∙ c.loop-turn.invariant.same;
  within = omega (arith, ap depth_of c.in_ok-whole.ensures, c.in_ok-whole.whole.exact, c.loop-turn.whole.exact);
}
