use Rattle.std.proofs.Common.{◌≡◌, ◌+◌, ◌∷◌, length, take, ap, ◌∙◌, arith}
use Rattle.std.proofs.Math.Seq.{take-length}
use Rattle.ioa_code.specs.Loops.{kept}
use Rattle.ioa_code.proofs.Opened.{stands_before, takes_one, skips_one, ends_open}
use Rattle.ioa_code.proofs.nests.advance.Goals as goal
use Rattle.ioa_code.proofs.nests.advance.Goals.{Joined-place-end-2, then-place-end-2+in_ok-push-2, else-place-end-2}

pub end-requires-in-loop-each : goal.end-requires-in-loop-each
end-requires-in-loop-each c =
    let lt = stands_before c.args.instrs.now c.args.place c.loop-each.each-index 0 c.args.round.now c.requires.here c.loop-each-test.true in
    let within = c.requires.within in
    omega arith

pub loop-each-preserved : goal.loop-each-preserved
loop-each-preserved c =
    elim c.if-place-end-2.branch [
      | then-place-end-2+in_ok-push-2 w ↦
          let e = c.end-in-loop-each.ensures.value in
          let small = c.end-in-loop-each.ensures.small in
          let lt = w.if-place-end-2.true in
          record {
            kept = ap (λ v. v.items) w.next-is ∙ w.in_ok-push-2.ensures.items ∙ takes_one c.args.instrs.now (c.args.place + 1) c.args.place c.loop-each.each-index 0 c.args.round.now c.loop-each.next.items c.loop-each.invariant.kept c.loop-each-test.true (omega arith);
            near = λ far. absurd (omega arith);
          }
      | else-place-end-2 w ↦
          let e = c.end-in-loop-each.ensures.value in
          let le = w.if-place-end-2.false in
          record {
            kept = ap (λ v. v.items) w.next-is ∙ skips_one c.args.instrs.now (c.args.place + 1) c.args.place c.loop-each.each-index 0 c.args.round.now c.loop-each.next.items c.loop-each.invariant.kept c.loop-each-test.true (omega arith);
            near = λ far. ap (λ v. v.items) w.next-is ∙ c.loop-each.invariant.near far;
          }
    ]

pub returns-clause-next : goal.returns-clause-next
returns-clause-next c =
    let ge = c.loop-each-test.false in
    let le = c.loop-each.auto.each-index-end in
    let all : c.loop-each.each-index ≡ length c.args.round.now = omega arith in
    c.loop-each.invariant.kept ∙ ap (λ n. kept c.args.instrs.now (c.args.place + 1) (c.args.place ∷ take n c.args.round.now)) all
    ∙ ap (λ l. kept c.args.instrs.now (c.args.place + 1) (c.args.place ∷ l)) (take-length c.args.round.now)
    ∙ ends_open c.args.instrs.now c.args.place c.args.round.now c.requires.here
