use Rattle.std.proofs.Common.{arith, refl}
use Rattle.ioa_tree.specs.View.{expr_of}
use Rattle.ioa_tree.proofs.Pairs.{alike_more, alike_length, alike_at, alike_all}
use Rattle.ioa_tree.proofs.ExpressionRows.{exprs_alike, alike_exprs}
use Rattle.ioa_tree.proofs.sameness.+same_expression.Goals as goal

pub same_expressions-returns-then-these-those : goal.same_expressions-returns-then-these-those
same_expressions-returns-then-these-those t c = (λ never. absurd (cc (never)), λ same. absurd (c.if-these-those.true (alike_length expr_of c.args.these.now c.args.those.now (exprs_alike c.args.these.now c.args.those.now same))))

pub same_expressions-loop-i-preserved : goal.same_expressions-loop-i-preserved
same_expressions-loop-i-preserved t c =
    alike_more expr_of c.args.these.now c.args.those.now c.loop-i.i c.index-these-i.result c.index-those-i.result c.loop-i-test.true c.if-these-those.false c.loop-i.invariant c.index-these-i.is c.index-those-i.is (c.same_expression.ensures.0 c.if-not-same_expression.false)

pub same_expressions-returns-then-not-same_expression : goal.same_expressions-returns-then-not-same_expression
same_expressions-returns-then-not-same_expression t c =
    (λ never. absurd (cc (never)), λ same. c.if-not-same_expression.ensures.1 (alike_at expr_of c.args.these.now c.args.those.now (exprs_alike c.args.these.now c.args.those.now same) c.loop-i.i c.loop-i-test.true c.index-these-i.result c.index-those-i.result c.index-these-i.is c.index-those-i.is))

pub same_expressions-returns : goal.same_expressions-returns
same_expressions-returns t c =
    (λ _. alike_exprs c.args.these.now c.args.those.now (alike_all expr_of c.args.these.now c.args.those.now c.if-these-those.false (λ k h. c.loop-i.invariant k (omega arith))), λ _. refl)
