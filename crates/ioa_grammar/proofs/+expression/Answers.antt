use Rattle.std.proofs.Common.{rules, arith, ◌≡◌, ◌≤◌, ◌+◌, ◌-◌, ◌∙◌, Some, Ok, [], ◌∷◌, ◌++◌, map, refl, ap, sym, subst}
use Rattle.ioa_value.specs.declared.terminal.Terminal.TheVariants as terminals
use Rattle.ioa_lex.specs.Tokens.{tokens_shown}
use Rattle.ioa_grammar.specs.Reading as spec
use Rattle.ioa_tree.specs.Tree.{Expr, make}
use Rattle.ioa_tree.specs.View.{expr_of, exprs_of, name_of}
use Rattle.ioa_tree.specs.Depth.{depth_of, exprs_depth}
use Rattle.ioa_grammar.proofs.Tuples.{tuple_read, depth_pushed}
use Rattle.ioa_tree.proofs.ExpressionRows.{in_order_shown}
use Rattle.ioa_grammar.proofs.Turns.{items_turn, items_close}
use Rattle.ioa_grammar.proofs.Climb.{climb_turn, climb_fails, expr_starts}
use Rattle.ioa_grammar.proofs.+expression.Goals as goal

pub expressions::climb-loop-turn-preserved : goal.expressions::climb-loop-turn-preserved
expressions::climb-loop-turn-preserved t c = record {
  same =
      let at : spec.operator_at c.args.least c.loop-turn.below (tokens_shown c.loop-turn.cursor) ≡ Some c.in-Some.operator = search rules in
      let fits : depth_of (expr_of c.loop-turn.left.expression) ≤ c.args.depth = omega (arith, c.loop-turn.left.exact) in
      climb_turn c.args.depth c.loop-turn._turn c.args.least c.loop-turn.below _ _ _ (expr_of c.loop-turn.left.expression) _ _ (tokens_shown c.loop-turn.cursor) _ _ (omega arith) at c.skip.ensures fits c.in_ok-operand.ensures.read c.right_of.ensures c.after_of-below.ensures c.in_ok-left.ensures
      ∙ c.loop-turn.invariant.same;
  within = omega (arith, ap depth_of c.in_ok-left.ensures, c.in_ok-left.left.exact, c.loop-turn.left.exact, c.in_ok-operand.operand.exact, c.in_ok-operand.ensures.within);
}

pub expressions::climb-returns-in_err-operand-clause-read : goal.expressions::climb-returns-in_err-operand-clause-read
expressions::climb-returns-in_err-operand-clause-read t c =
    let at : spec.operator_at c.args.least c.loop-turn.below (tokens_shown c.loop-turn.cursor) ≡ Some c.in-Some.operator = search rules in
    let fits : depth_of (expr_of c.loop-turn.left.expression) ≤ c.args.depth = omega (arith, c.loop-turn.left.exact) in
    let failed : spec.Fails c.in_err-operand.field-0.0 (spec.climb c.args.depth (spec.expr c.args.depth) c.args.depth c.args.least c.args.first.1 (expr_of c.args.first.0.expression) (tokens_shown c.args.cursor.now)) =
    subst (spec.Fails c.in_err-operand.field-0.0) c.loop-turn.invariant.same
    (climb_fails c.args.depth c.loop-turn._turn c.args.least c.loop-turn.below c.right_of.result c.in-Some.operator (expr_of c.loop-turn.left.expression) (tokens_shown c.loop-turn.cursor) (tokens_shown c.skip.new.self) _ (omega arith) at c.skip.ensures fits c.right_of.ensures c.in_err-operand.ensures.read) in
    search rules

pub expressions::expression-returns-clause-read : goal.expressions::expression-returns-clause-read
expressions::expression-returns-clause-read t c =
    let starts = expr_starts c.args.depth c.args.least _ (tokens_shown c.args.cursor.now) _ _ (omega arith) c.in_ok-left.ensures.read in
    subst (λ (o : spec.Outcome Expr). spec.ReadsAs (λ m. expr_of m.expression) o c.climb.result (tokens_shown c.climb.new.cursor)) (sym starts) c.climb.ensures.read

pub calls::after_name-returns-clause-read : goal.calls::after_name-returns-clause-read
calls::after_name-returns-clause-read t c =
    tuple_read (spec.expr c.args.depth 0) (name_of c.args.name) (tokens_shown c.args.cursor.now) _ _ _ _ (sym c.take.ensures.found ∙ c.if-not-take.false) c.take.ensures.after c.in_ok-fields.ensures.read c.in_ok-expect.ensures
    ∙ ap (λ e. Ok (e, tokens_shown c.expect.new.self)) (ap (make (name_of c.args.name)) (in_order_shown c.in_ok-fields.fields.items) ∙ sym c.make.ensures)

pub calls::fields-returns-then-not-take-clause-read : goal.calls::fields-returns-then-not-take-clause-read
calls::fields-returns-then-not-take-clause-read t c =
    sym c.loop-turn.invariant.same
    ∙ items_close expr_of spec.always terminals.Comma (spec.expr c.args.depth 0) _ _ _ _ _ _ _ _ c.loop-turn-test.true c.in_ok-field.ensures.read c.take.ensures.after (sym c.take.ensures.found ∙ c.if-not-take.true) (c.in_ok-push.ensures.items ∙ ap (λ e. c.loop-turn.found.items ++ e ∷ []) c.alone.ensures)

pub calls::fields-returns-then-not-take-clause-exact : goal.calls::fields-returns-then-not-take-clause-exact
calls::fields-returns-then-not-take-clause-exact t c =
    let pushed = ap (λ xs. exprs_depth (exprs_of xs)) (c.in_ok-push.ensures.items ∙ ap (λ e. c.loop-turn.found.items ++ e ∷ []) c.alone.ensures) ∙ depth_pushed c.loop-turn.found.items c.in_ok-field.field.expression in
    omega (arith, pushed, c.max-deepest.ensures, c.in_ok-field.field.exact, c.loop-turn.invariant.exact)

pub calls::fields-loop-turn-preserved : goal.calls::fields-loop-turn-preserved
calls::fields-loop-turn-preserved t c = record {
  same =
      ap (λ xs. spec.items_from spec.always terminals.Comma (spec.expr c.args.depth 0) (c.left-turn-end.result - (c.loop-turn._turn + 1)) (map expr_of xs) (tokens_shown c.take.new.self)) (c.in_ok-push.ensures.items ∙ ap (λ e. c.loop-turn.found.items ++ e ∷ []) c.alone.ensures)
      ∙ items_turn expr_of spec.always terminals.Comma (spec.expr c.args.depth 0) _ _ _ _ _ _ _ c.loop-turn-test.true c.in_ok-field.ensures.read (sym c.take.ensures.found ∙ c.if-not-take.false) c.take.ensures.after refl
      ∙ c.loop-turn.invariant.same;
  exact =
      let pushed = ap (λ xs. exprs_depth (exprs_of xs)) (c.in_ok-push.ensures.items ∙ ap (λ e. c.loop-turn.found.items ++ e ∷ []) c.alone.ensures) ∙ depth_pushed c.loop-turn.found.items c.in_ok-field.field.expression in
      omega (arith, pushed, c.max-deepest.ensures, c.in_ok-field.field.exact, c.loop-turn.invariant.exact);
  within = omega (arith, c.max-deepest.ensures, c.in_ok-field.ensures.within, c.loop-turn.invariant.within);
}
