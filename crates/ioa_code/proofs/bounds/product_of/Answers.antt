use Rattle.std.proofs.Common.{◌≡◌, ◌≤◌, length, ap, subst, arith}
use Rattle.ioa_code.proofs.Totals.{times_256, times_small}
use Rattle.ioa_code.proofs.bounds.product_of.Goals as goal

pub returns-clause-small : goal.returns-clause-small
returns-clause-small c =
    let within = c.loop-each.auto.each-index-end in
    let few = c.requires.few in
    times_small c.loop-each.each-index c.loop-each.runs (omega arith) c.loop-each.invariant.small

pub returns-clause-alone : goal.returns-clause-alone
returns-clause-alone c none =
    let within = c.loop-each.auto.each-index-end in
    let long : length c.args.round.now ≡ 0 = ap length none in
    let first : c.loop-each.each-index ≡ 0 = omega arith in
    subst (λ i. c.loop-each.runs ≤ times_256 i) first c.loop-each.invariant.small
