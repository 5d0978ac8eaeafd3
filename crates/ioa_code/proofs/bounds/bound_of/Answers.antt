use Rattle.std.proofs.Common.{◌+◌, ◌<◌, ap, ◌∙◌, arith}
use Rattle.ioa_code.specs.Loops.{bodies}
use Rattle.ioa_code.specs.Parts.{part_for}
use Rattle.ioa_code.specs.Scan.{came}
use Rattle.ioa_code.proofs.Totals.{from_next, small_next}
use Rattle.ioa_code.proofs.bounds.bound_of.Goals as goal

pub loop-place-preserved : goal.loop-place-preserved
loop-place-preserved c =
    let part = part_for c.args.code.now c.args.env.now in
    let p = c.loop-place.place in
    let within : p < c.len-place-end.result = c.loop-place-test.true in
    record {
      round = c.in_ok-round.ensures.next ∙ ap (λ l. bodies l (p + 1)) c.deref-in-loop-place.ensures.value;
      near = c.in_ok-round.ensures.near;
      total = λ brought all.
          let had = c.loop-place.invariant.total brought all in
          let here = c.weight-total.ensures.value brought all in
          let more = from_next part (came brought) p (omega arith) in
          omega arith;
      small = small_next p c.loop-place.total c.weight-total.result c.loop-place.invariant.small c.weight-total.ensures.small c.weight-total.ensures.far;
    }
