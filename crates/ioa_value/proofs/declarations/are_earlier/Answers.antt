use Rattle.std.proofs.Common.{arith}
use Rattle.std.proofs.lemmas.Bool.Decides.{nat_tests}
use Rattle.ioa_value.proofs.FirstLemmas.{field_before, earlier_more}
use Rattle.ioa_value.proofs.declarations.are_earlier.Goals as goal

pub returns-then-fields-i : goal.returns-then-fields-i
returns-then-fields-i c =
    (λ no. absurd (cc), λ h. let lt = field_before c.args.count c.args.fields.now c.loop-i.i c.index-fields-i.result c.loop-i-test.true h in let ge = c.if-fields-i.true in absurd (omega (arith, lt, ge)))

pub loop-i-preserved : goal.loop-i-preserved
loop-i-preserved c =
    let ge = c.if-fields-i.false in
    earlier_more c.args.count c.args.fields.now c.loop-i.i c.index-fields-i.result c.loop-i-test.true c.loop-i.invariant (grind (arith, nat_tests))
