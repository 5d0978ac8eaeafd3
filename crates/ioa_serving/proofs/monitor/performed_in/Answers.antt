use Rattle.std.proofs.Common.{Vec, ◌<◌, map, ap, ◌∙◌, refl, arith}
use Rattle.std.specs.Global.{Global}
use Rattle.ioa_value.specs.declared.action.Action.{Action}
use Rattle.ioa_value.specs.Actions.{act_of}
use Rattle.ioa_serving.proofs.Logged.{all_performed, last_faulted}
use Rattle.ioa_serving.proofs.monitor.performed_in.Goals.{in-Done, in-Fault+in-Some-1, in-Fault+in-None-1}
use Rattle.ioa_serving.proofs.monitor.performed_in.Goals as goal

pub returns : goal.returns
returns c =
    let all = c.in_ok-actions.actions in
    let log = c.args.log in
    elim c.match-log.branch [
      | in-Done w ↦ ap (λ (v : Vec Action Global). map act_of v.items) w.actions-is ∙ all_performed log w.in-Done.field-0 all.items w.in-Done.is c.in_ok-actions.ensures
      | in-Fault+in-Some-1 w ↦
          ap (λ (v : Vec Action Global). map act_of v.items) w.actions-is
          ∙ last_faulted log _ all.items w.pop.new.self.items w.pop.result w.in-Fault.is refl c.in_ok-actions.ensures w.pop.ensures.items
          (λ more. let long : 0 < all.len = omega (arith, more, all.ok.0) in w.pop.ensures.variant.1 long)
      | in-Fault+in-None-1 w ↦
          ap (λ (v : Vec Action Global). map act_of v.items) w.actions-is
          ∙ last_faulted log _ all.items w.pop.new.self.items w.pop.result w.in-Fault.is refl c.in_ok-actions.ensures w.pop.ensures.items
          (λ more. let long : 0 < all.len = omega (arith, more, all.ok.0) in w.pop.ensures.variant.1 long)
    ]
