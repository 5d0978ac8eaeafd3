use Rattle.std.proofs.Common.{arith, refl, ap, sym, ◌∙◌}
use Rattle.ioa_tree.specs.View.{stmt_of, arm_of, arms_of}
use Rattle.ioa_tree.proofs.Pairs.{alike_more, alike_length, alike_at, alike_all}
use Rattle.ioa_tree.proofs.StatementRows.{chosen_arms, stmts_alike, alike_stmts, arms_alike, alike_arms}
use Rattle.ioa_tree.proofs.sameness.+same_statement.Goals as goal

pub same_statements-returns-then-these-those : goal.same_statements-returns-then-these-those
same_statements-returns-then-these-those t c = (λ never. absurd (cc (never)), λ same. absurd (c.if-these-those.true (alike_length stmt_of c.args.these.now c.args.those.now (stmts_alike c.args.these.now c.args.those.now same))))

pub same_statements-loop-i-preserved : goal.same_statements-loop-i-preserved
same_statements-loop-i-preserved t c =
    alike_more stmt_of c.args.these.now c.args.those.now c.loop-i.i c.index-these-i.result c.index-those-i.result c.loop-i-test.true c.if-these-those.false c.loop-i.invariant c.index-these-i.is c.index-those-i.is (c.same_statement.ensures.0 c.if-not-same_statement.false)

pub same_statements-returns-then-not-same_statement : goal.same_statements-returns-then-not-same_statement
same_statements-returns-then-not-same_statement t c =
    (λ never. absurd (cc (never)), λ same. c.if-not-same_statement.ensures.1 (alike_at stmt_of c.args.these.now c.args.those.now (stmts_alike c.args.these.now c.args.those.now same) c.loop-i.i c.loop-i-test.true c.index-these-i.result c.index-those-i.result c.index-these-i.is c.index-those-i.is))

pub same_statements-returns : goal.same_statements-returns
same_statements-returns t c =
    (λ _. alike_stmts c.args.these.now c.args.those.now (alike_all stmt_of c.args.these.now c.args.those.now c.if-these-those.false (λ k h. c.loop-i.invariant k (omega arith))), λ _. refl)

pub same_arms-returns-then-these-those : goal.same_arms-returns-then-these-those
same_arms-returns-then-these-those t c = (λ never. absurd (cc (never)), λ same. absurd (c.if-these-those.true (alike_length arm_of c.args.these.now c.args.those.now (arms_alike c.args.these.now c.args.those.now same))))

pub same_arms-loop-i-preserved : goal.same_arms-loop-i-preserved
same_arms-loop-i-preserved t c =
    alike_more arm_of c.args.these.now c.args.those.now c.loop-i.i c.index-these-i.result c.index-those-i.result c.loop-i-test.true c.if-these-those.false c.loop-i.invariant c.index-these-i.is c.index-those-i.is (c.same_arm.ensures.0 c.if-not-same_arm.false)

pub same_arms-returns-then-not-same_arm : goal.same_arms-returns-then-not-same_arm
same_arms-returns-then-not-same_arm t c =
    (λ never. absurd (cc (never)), λ same. c.if-not-same_arm.ensures.1 (alike_at arm_of c.args.these.now c.args.those.now (arms_alike c.args.these.now c.args.those.now same) c.loop-i.i c.loop-i-test.true c.index-these-i.result c.index-those-i.result c.index-these-i.is c.index-those-i.is))

pub same_arms-returns : goal.same_arms-returns
same_arms-returns t c =
    (λ _. alike_arms c.args.these.now c.args.those.now (alike_all arm_of c.args.these.now c.args.those.now c.if-these-those.false (λ k h. c.loop-i.invariant k (omega arith))), λ _. refl)

pub same_statement-returns-else-same_arms : goal.same_statement-returns-else-same_arms
same_statement-returns-else-same_arms t c = (
  λ yes. absurd (cc (yes, c.if-same_arms.false)),
  λ same. c.same_arms.ensures.1 (ap arms_of c.deref.ensures.value ∙ chosen_arms _ _ _ _ _ _ _ _ c.in-If-If.is-0 c.in-If-If.is-1 same ∙ sym (ap arms_of c.deref-in-If-If.ensures.value)),
)
