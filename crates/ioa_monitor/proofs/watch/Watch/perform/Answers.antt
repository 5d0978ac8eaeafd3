use Rattle.std.proofs.Common.{ap, refl}
use Rattle.ioa_value.specs.Actions.{act_of}
use Rattle.ioa_tree.specs.Runs.{fault_at, not_enabled_at}
use Rattle.ioa_monitor.proofs.Monitored.{by_answer}
use Rattle.ioa_monitor.proofs.Watching.{watched_last, watched_on}
use Rattle.ioa_monitor.proofs.watch.Watch.perform.Goals as goal

pub returns-in-Next : goal.returns-in-Next
returns-in-Next c = λ p acts h none.
    let said = c.in_ok-step.ensures in
    watched_on p acts c.args.self.now h (act_of c.args.action.now) _ c.in_ok-step.step none said.program said.step said.kept c.in-Next.is refl refl

pub returns-in-NotEnabled : goal.returns-in-NotEnabled
returns-in-NotEnabled c = λ p acts h none.
    let said = c.in_ok-step.ensures in
    watched_last p acts c.args.self.now h (act_of c.args.action.now) _ c.in_ok-step.step (not_enabled_at c.args.self.now.count) none said.program said.step said.kept
    (λ rest. ap (λ s. by_answer c.args.self.now.count s rest) c.in-NotEnabled.is) refl refl

pub returns-in-Fault : goal.returns-in-Fault
returns-in-Fault c = λ p acts h none.
    let said = c.in_ok-step.ensures in
    watched_last p acts c.args.self.now h (act_of c.args.action.now) _ c.in_ok-step.step (fault_at c.in-Fault.component c.in-Fault.fault c.args.self.now.count) none said.program said.step said.kept
    (λ rest. ap (λ s. by_answer c.args.self.now.count s rest) c.in-Fault.is) refl refl
