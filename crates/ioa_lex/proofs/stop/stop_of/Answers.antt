use Rattle.std.proofs.Common.{arith}
use Rattle.std.proofs.lemmas.List.{take_rest}
use Rattle.ioa_lex.proofs.Steps.{within_more}
use Rattle.ioa_lex.proofs.Stopping.{passed_more, stop_on, never_stops}
use Rattle.ioa_lex.proofs.stop.stop_of.Goals as goal

pub returns-in_default-clause-line : goal.returns-in_default-clause-line
returns-in_default-clause-line c =
    let none = rw (take_rest c.args.text.now c.loop-at.at) at (rw c.in_default.is at c.in_ok-len.ensures) in
    stop_on c.args.text.now c.loop-at.at c.loop-at-test.true c.loop-at.invariant.passed none

pub loop-at-smaller : goal.loop-at-smaller
loop-at-smaller c =
    let some = rw (take_rest c.args.text.now c.loop-at.at) at (rw c.in-Some.is at c.in_ok-len.ensures) in
    let k = within_more c.args.text.now c.loop-at.at c.in-Some.len some.0 c.loop-at.invariant.within some.1 in
    omega (arith, k.0, k.1)

pub loop-at-preserved : goal.loop-at-preserved
loop-at-preserved c =
    let some = rw (take_rest c.args.text.now c.loop-at.at) at (rw c.in-Some.is at c.in_ok-len.ensures) in
    record {
      within = (within_more c.args.text.now c.loop-at.at c.in-Some.len some.0 c.loop-at.invariant.within some.1).1;
      passed = passed_more c.args.text.now c.loop-at.at c.in-Some.len some.0 c.loop-at.invariant.passed some.1;
    }

pub returns-clause-line : goal.returns-clause-line
returns-clause-line c = never_stops c.args.text.now c.loop-at.at c.loop-at.invariant.passed c.loop-at-test.false
