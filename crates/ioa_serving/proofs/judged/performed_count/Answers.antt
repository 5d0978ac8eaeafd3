use Rattle.std.proofs.Common.{arith, refl}
use Rattle.ioa_serving.proofs.Judging.{done_count, fault_count}
use Rattle.ioa_serving.proofs.judged.performed_count.Goals as goal

pub returns-in-Done : goal.returns-in-Done
returns-in-Done c =
    let all = done_count c.args.log.now _ c.in-Done.is refl in
    omega (arith, c.len.ensures, c.args.log.now.entries.ok.0, all)

pub returns-in-Fault : goal.returns-in-Fault
returns-in-Fault c =
    let all = fault_count c.args.log.now _ c.in-Fault.is refl in
    omega (arith, c.len-in-Fault.ensures, c.saturating_sub.ensures, c.args.log.now.entries.ok.0, all)
