use Rattle.std.proofs.Common.{◌≡◌, List, ap, subst, sym, ◌∙◌}
use Rattle.ioa_value.specs.Actions.{Act}
use Rattle.ioa_parts.specs.Nodes.{Node}
use Rattle.ioa_tree.specs.Steps as steps
use Rattle.ioa_compile.specs.Programs.{Prog}
use Rattle.ioa_system.specs.declared.participation.Participant.{Participant}
use Rattle.ioa_system.specs.Outcomes.{step_of}
use Rattle.ioa_system.specs.Drafted.{drafted}
use Rattle.ioa_system.specs.Found.{AreReady, components_of, lent, numbers_of}
use Rattle.ioa_system.specs.Participants.{all_back, renumbered}
use Rattle.ioa_system.specs.Systems.{values_of}
use Rattle.ioa_system.proofs.Readying.{ready_all}
use Rattle.ioa_system.proofs.Running.{places_found, settled}
use Rattle.ioa_system.proofs.stepper.Stepper.step.Goals as goal

pub moved-requires : goal.moved-requires
moved-requires c =
    let p : Prog = c.args.participation.now.program in
    let a : Act = c.args.participation.now.action in
    let qs : List Participant = c.participants-participants.result.now in
    subst (λ (b : Act). AreReady b c.args.states.now qs) (sym c.action.ensures)
    (ready_all p.types a p.members c.args.states.now qs c.participants-participants.ensures.found c.participants-participants.ensures.sound.members c.requires)

pub settle-requires-clause-places : goal.settle-requires-clause-places
settle-requires-clause-places c =
    places_found c.args.participation.now.program c.args.participation.now.action c.args.states.now c.participants-participants.result.now
    (record { found = c.participants-participants.ensures.found; types = c.requires })

pub returns-clause-step : goal.returns-clause-step
returns-clause-step c =
    let a : Act = c.args.participation.now.action in
    let ns : List Node = c.args.states.now in
    let qs : List Participant = c.participants-participants.result.now in
    let w : step_of c.in_ok-step.step (values_of (drafted ns qs c.moved.new.drafts.items)) ≡ renumbered (numbers_of qs) (steps.step (components_of qs) a (lent ns qs)) =
    c.in_ok-step.ensures.value ∙ ap (λ (b : Act). renumbered (numbers_of qs) (steps.step (components_of qs) b (lent ns qs))) c.action.ensures in
    (settled c.args.participation.now.program a ns c.settle.new.states qs (step_of c.in_ok-step.step (values_of (drafted ns qs c.moved.new.drafts.items))) c.in_ok-step.step
    (record { found = c.participants-participants.ensures.found; types = c.requires }) w
    (subst (λ ds. step_of c.in_ok-step.step (values_of c.settle.new.states) ≡ all_back (numbers_of qs) (values_of ns) (step_of c.in_ok-step.step (values_of (drafted ns qs ds)))) c.deref.ensures.value c.settle.ensures.step)
    c.settle.ensures.kept c.settle.ensures.types).answer
