use Rattle.std.proofs.Common.{arith}
use Rattle.std.proofs.lemmas.List.Edits.{map_over_more}
use Rattle.ioa_serving.specs.Pacing.{given_up}
use Rattle.ioa_serving.proofs.Pacing.{all_given_up}
use Rattle.ioa_serving.proofs.pace.Pace.give_up.Goals as goal

pub loop-i-preserved : goal.loop-i-preserved
loop-i-preserved c =
    rw c.given_up.ensures (map_over_more (given_up c.args.who) c.args.self.now.workers.items c.loop-i.self.workers.items c.loop-i.i c.index.result.now (omega (arith, c.loop-i-test.true, c.len-i-end.ensures)) c.loop-i.invariant c.index.ensures)

pub returns-clause-free : goal.returns-clause-free
returns-clause-free c =
    all_given_up c.args.who c.loop-i.i c.args.self.now.workers.items c.loop-i.self.workers.items (omega (arith, c.loop-i-test.false, c.len-i-end.ensures)) c.loop-i.invariant
