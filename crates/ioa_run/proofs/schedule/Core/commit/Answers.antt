use Rattle.std.proofs.Common.{◌≡◌, ◌∙◌, List, None, Option, sym, ap, subst}
use Rattle.ioa_board.specs.Planning.{IsOf}
use Rattle.ioa_board.specs.ProgramBoards.{ProgramBoard}
use Rattle.ioa_board.specs.ProgramPlans.{ProgramPlan}
use Rattle.ioa_run.specs.ProgramSchedules.{ArePlans}
use Rattle.ioa_board.specs.Verdicts.{Commit, GivesBack}
use Rattle.ioa_run.proofs.Scheduling.{decided, given, nothing_spent, plan_spent, plans_put, restored, run_of, taken_there}
use Rattle.ioa_run.proofs.schedule.Core.commit.Goals as goal

pub returns-in_default-clause-answers : goal.returns-in_default-clause-answers
returns-in_default-clause-answers c =
    nothing_spent c.self.inside.board c.self.inside.plans.items c.exchange.new.plans.items c.args.who c.args.self.now c.self.view_is c.in_default.ensures.old c.exchange.ensures.new

pub invariant_of-self-in-Ok : goal.invariant_of-self-in-Ok
invariant_of-self-in-Ok c =
    let done : Commit c.self.inside.board c.in-Some.plan c.in-Ok.answer c.commit.new.self = decided c.self.inside.board c.commit.new.self c.in-Some.plan c.commit.result c.in-Ok.answer c.commit.ensures c.in-Ok.ensures in
    subst (λ p. ArePlans p c.exchange.new.plans.items) (sym done.program)
    (subst (ArePlans c.self.inside.board.program) (sym c.exchange.ensures.new) (plans_put c.self.inside.board.program c.self.inside.plans.items c.args.who None c.self.invariant tt))

pub returns-in-Ok-clause-answers : goal.returns-in-Ok-clause-answers
returns-in-Ok-clause-answers c =
    let done : Commit c.self.inside.board c.in-Some.plan c.in-Ok.answer c.commit.new.self = decided c.self.inside.board c.commit.new.self c.in-Some.plan c.commit.result c.in-Ok.answer c.commit.ensures c.in-Ok.ensures in
    let own : IsOf c.self.inside.board.program c.args.who c.in-Some.plan =
    c.self.invariant.own c.args.who c.in-Some.plan (taken_there c.self.inside.plans.items c.args.who c.in-Some.plan c.in-Some.ensures.old) in
    plan_spent c.self.inside.board c.commit.new.self c.self.inside.plans.items c.exchange.new.plans.items c.args.who c.in-Some.plan c.in-Ok.answer c.args.self.now c.self.view_is own c.in-Some.ensures.old
    c.exchange.ensures.new done

pub invariant_of-self-in-Err : goal.invariant_of-self-in-Err
invariant_of-self-in-Err c =
    let back : GivesBack c.self.inside.board c.in-Some.plan c.in-Err.plan c.commit.new.self = given c.self.inside.board c.commit.new.self c.in-Some.plan c.in-Err.plan c.commit.result c.commit.ensures c.in-Err.ensures in
    let same : c.put_plan.new.plans.items ≡ c.self.inside.plans.items =
    restored c.self.inside.plans.items c.exchange.new.plans.items c.put_plan.new.plans.items c.args.who c.in-Some.plan c.in-Err.plan c.in-Some.ensures.old back.plan c.exchange.ensures.new c.put_plan.ensures in
    subst (λ (b : ProgramBoard). ArePlans b.program c.put_plan.new.plans.items) (sym back.board) (subst (ArePlans c.self.inside.board.program) (sym same) c.self.invariant)

pub returns-in-Err-clause-memory : goal.returns-in-Err-clause-memory
returns-in-Err-clause-memory c =
    let back : GivesBack c.self.inside.board c.in-Some.plan c.in-Err.plan c.commit.new.self = given c.self.inside.board c.commit.new.self c.in-Some.plan c.in-Err.plan c.commit.result c.commit.ensures c.in-Err.ensures in
    let same : c.put_plan.new.plans.items ≡ c.self.inside.plans.items =
    restored c.self.inside.plans.items c.exchange.new.plans.items c.put_plan.new.plans.items c.args.who c.in-Some.plan c.in-Err.plan c.in-Some.ensures.old back.plan c.exchange.ensures.new c.put_plan.ensures in
    ap (λ (b : ProgramBoard). run_of b c.put_plan.new.plans.items) back.board ∙ ap (λ (xs : List (Option ProgramPlan)). run_of c.self.inside.board xs) same ∙ c.self.view_is
