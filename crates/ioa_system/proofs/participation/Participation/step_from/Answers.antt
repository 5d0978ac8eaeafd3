use Rattle.std.proofs.Common.{◌≡◌, List, IfOk, sym, ap, subst, ◌∙◌}
use Rattle.std.proofs.lemmas.Result.{IfOk-weaker}
use Rattle.ioa_value.specs.Actions.{Act}
use Rattle.ioa_parts.specs.Nodes.{Node}
use Rattle.ioa_node.specs.Drafts.{Marked}
use Rattle.ioa_tree.specs.Steps as steps
use Rattle.ioa_compile.specs.Programs.{Prog}
use Rattle.ioa_compile.specs.Tables.{tabled}
use Rattle.ioa_system.specs.declared.participation.Participant.{Participant}
use Rattle.ioa_system.specs.Outcomes.{AreOfTypes, moved_of, step_of}
use Rattle.ioa_system.specs.Drafted.{drafted}
use Rattle.ioa_system.specs.Found.{AreReady, components_of, lent, numbers_of, placed}
use Rattle.ioa_system.specs.Participants.{renumbered, step_from}
use Rattle.ioa_system.specs.Systems.{values_of}
use Rattle.ioa_system.proofs.Participating.{step_taken}
use Rattle.ioa_system.proofs.Readying.{ready_alone, step_alone, types_alone}
use Rattle.ioa_system.proofs.participation.Participation.step_from.Goals as goal
use Rattle.ioa_system.proofs.participation.Participation.step_from.Goals.{After-as_slice-participants}

pub returns-in_err-in_order-clause-alone : goal.returns-in_err-in_order-clause-alone
returns-in_err-in_order-clause-alone c = λ ss h. step_taken (tabled c.args.self.now.program) c.args.self.now.action ss h

pub returns-in_err-step-clause-alone : goal.returns-in_err-step-clause-alone
returns-in_err-step-clause-alone c = λ ss h. step_taken (tabled c.args.self.now.program) c.args.self.now.action ss h

pub returns-clause-alone : goal.returns-clause-alone
returns-clause-alone c = λ ss h. step_taken (tabled c.args.self.now.program) c.args.self.now.action ss h

in_order : (c : After-as_slice-participants) → c.as_slice-participants.result.now ≡ placed 0 c.participants.result.now
in_order c = c.as_slice-participants.ensures.value ∙ c.in_ok-in_order.ensures

ready : (c : After-as_slice-participants) → AreReady c.args.self.now.action c.args.states.now c.as_slice-participants.result.now
ready c =
    subst (AreReady c.args.self.now.action c.args.states.now) (sym (in_order c))
    (ready_alone c.args.self.now.program.types c.args.self.now.action c.args.self.now.program.members c.args.states.now c.participants.result.now
    c.participants.ensures.found c.participants.ensures.sound.members c.requires)

pub moved-requires : goal.moved-requires
moved-requires c =
    subst (λ a. AreReady a c.args.states.now c.as_slice-participants.result.now) (sym c.action.ensures) (ready ((goal.at.moved-requires c).After-as_slice-participants))

pub answer-requires-clause-states : goal.answer-requires-clause-states
answer-requires-clause-states c = (ready ((goal.at.answer-requires-clause-states c).After-as_slice-participants)).states

pub returns-clause-value : goal.returns-clause-value
returns-clause-value c =
    let at = (goal.at.returns-clause-value c).After-as_slice-participants in
    let p : Prog = c.args.self.now.program in
    let a : Act = c.args.self.now.action in
    let ns : List Node = c.args.states.now in
    let qs : List Participant = c.participants.result.now in
    let rs : List Participant = c.as_slice-participants.result.now in
    let answered : List Marked → Type 0 = λ ds. IfOk c.answer.result (λ m. moved_of m ≡ step_of c.in_ok-step.step (values_of (drafted ns rs ds))) in
    IfOk-weaker c.answer.result
    (λ m. moved_of m ≡ step_of c.in_ok-step.step (values_of (drafted ns rs c.moved.new.drafts.items)))
    (λ m. moved_of m ≡ step_from (tabled p) a (values_of ns))
    (λ m e. e ∙ c.in_ok-step.ensures.value ∙ ap (λ (b : Act). renumbered (numbers_of rs) (steps.step (components_of rs) b (lent ns rs))) c.action.ensures
    ∙ step_alone p a ns qs rs c.participants.ensures.found (in_order at) c.requires)
    (subst answered c.deref.ensures.value c.answer.ensures.value)

pub returns-clause-types : goal.returns-clause-types
returns-clause-types c =
    let at = (goal.at.returns-clause-types c).After-as_slice-participants in
    subst (λ ts. IfOk c.answer.result (AreOfTypes ts))
    (types_alone c.args.self.now.program c.args.self.now.action c.args.states.now c.participants.result.now c.as_slice-participants.result.now
    c.participants.ensures.found (in_order at) c.requires)
    c.answer.ensures.types
