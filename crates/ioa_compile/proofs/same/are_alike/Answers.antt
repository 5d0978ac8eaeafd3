use Rattle.std.proofs.Common.{arith, refl}
use Rattle.ioa_tree.proofs.Pairs.{alike_more, alike_length, alike_at, alike_all}
use Rattle.ioa_compile.proofs.same.are_alike.Goals as goal

pub returns-then-these-those : goal.returns-then-these-those
returns-then-these-those g c = (λ never. absurd (cc (never)), λ same. absurd (c.if-these-those.true (alike_length g.T.Alike.part c.args.these.now c.args.those.now same)))

pub loop-i-preserved : goal.loop-i-preserved
loop-i-preserved g c =
    alike_more g.T.Alike.part c.args.these.now c.args.those.now c.loop-i.i c.index-these-i.result c.index-those-i.result c.loop-i-test.true c.if-these-those.false c.loop-i.invariant c.index-these-i.is c.index-those-i.is (c.is_like.ensures.0 c.if-not-is_like.false)

pub returns-then-not-is_like : goal.returns-then-not-is_like
returns-then-not-is_like g c =
    (λ never. absurd (cc (never)), λ same. c.if-not-is_like.ensures.1 (alike_at g.T.Alike.part c.args.these.now c.args.those.now same c.loop-i.i c.loop-i-test.true c.index-these-i.result c.index-those-i.result c.index-these-i.is c.index-those-i.is))

pub returns : goal.returns
returns g c =
    (λ _. alike_all g.T.Alike.part c.args.these.now c.args.those.now c.if-these-those.false (λ k h. c.loop-i.invariant k (omega arith)), λ _. refl)
