use Rattle.std.proofs.Common.{sym, subst}
use Rattle.std.specs.Prelude.{IfSome}
use Rattle.ioa_value.specs.Actions.{act_of}
use Rattle.ioa_board.specs.Planning.{IsOf}
use Rattle.ioa_run.specs.ProgramSchedules.{ArePlans}
use Rattle.ioa_run.proofs.Scheduling.{copied, own_plan, plans_put}
use Rattle.ioa_run.proofs.schedule.Core.copy.Goals as goal

pub invariant_of-self : goal.invariant_of-self
invariant_of-self c =
    subst (ArePlans c.self.inside.board.program) (sym c.put_plan.ensures)
    (plans_put c.self.inside.board.program c.self.inside.plans.items c.args.who c.parted-answer.result.1 c.self.invariant
    (subst (λ o. IfSome o (IsOf c.self.inside.board.program c.args.who)) (sym c.parted-answer.ensures.1)
    (own_plan c.self.inside.board.program c.args.who c.in_ok-planned.planned c.in_ok-planned.ensures.ready)))

pub returns-clause-answers : goal.returns-clause-answers
returns-clause-answers c =
    copied c.self.inside.board c.self.inside.plans.items c.put_plan.new.plans.items c.args.who (act_of c.args.action) c.in_ok-planned.planned c.parted-answer.result.0 c.parted-answer.result.1 c.args.self.now c.self.view_is
    c.in_ok-planned.ensures c.parted-answer.ensures.0 c.parted-answer.ensures.1 c.put_plan.ensures
