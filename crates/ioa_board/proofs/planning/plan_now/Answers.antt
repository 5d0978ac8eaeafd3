use Rattle.std.proofs.Common.{subst}
use Rattle.ioa_value.specs.Actions.{act_of}
use Rattle.ioa_compile.specs.Programs.{Prog}
use Rattle.ioa_system.specs.Systems.{values_of}
use Rattle.ioa_board.specs.Planning.{Makes}
use Rattle.ioa_board.proofs.PlannedNow.{planned_now}
use Rattle.ioa_board.proofs.planning.plan_now.Goals as goal

pub returns : goal.returns
returns c =
    let p : Prog = c.args.board.now.program in
    planned_now c.args.board.now c.args.who (act_of c.args.action) c.plan_by.result c.in_ok-copied.ensures.whole
    (subst (λ ts. Makes p c.args.who (act_of c.args.action) ts c.plan_by.result) c.in_ok-copied.ensures.now
    (subst (λ (q : Prog). Makes q c.args.who (act_of c.args.action) (values_of c.in_ok-copied.copied.items) c.plan_by.result) c.program.ensures c.plan_by.ensures))
