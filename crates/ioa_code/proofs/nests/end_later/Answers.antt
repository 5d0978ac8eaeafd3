use Rattle.std.proofs.Common.{arith}
use Rattle.ioa_code.proofs.Opened.{stands_before}
use Rattle.ioa_code.proofs.nests.end_later.Goals as goal

pub end-requires : goal.end-requires
end-requires c =
    let lt = stands_before c.args.instrs.now c.args.place c.loop-each.each-index 0 c.args.round.now c.requires.here c.loop-each-test.true in
    let within = c.requires.within in
    omega arith
