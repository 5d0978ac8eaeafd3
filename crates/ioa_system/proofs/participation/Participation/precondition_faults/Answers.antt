use Rattle.std.proofs.Common.{List, ap, subst, sym, ◌∙◌}
use Rattle.ioa_value.specs.Actions.{Act, act_of}
use Rattle.ioa_parts.specs.Nodes.{Node}
use Rattle.ioa_tree.specs.Steps.{asked, not_an_action}
use Rattle.ioa_compile.specs.Programs.{Prog}
use Rattle.ioa_system.specs.declared.participation.Participant.{Participant}
use Rattle.ioa_system.specs.Found.{AreReady, components_of, lent, numbers_of}
use Rattle.ioa_system.specs.Preconditions.{is_faulted}
use Rattle.ioa_system.proofs.Asking.{asked_of_all, faulted_so}
use Rattle.ioa_system.proofs.Readying.{ready_all}
use Rattle.ioa_system.proofs.participation.Participation.precondition_faults.Goals as goal

pub write_arguments-requires : goal.write_arguments-requires
write_arguments-requires c =
    let p : Prog = c.args.self.now.program in
    let qs : List Participant = c.participants-participants.result.now in
    (ready_all p.types c.args.self.now.action p.members c.args.states.now qs c.participants-participants.ensures.found c.participants-participants.ensures.sound.members c.requires).table

pub asked-requires-clause-ready : goal.asked-requires-clause-ready
asked-requires-clause-ready c =
    let p : Prog = c.args.self.now.program in
    let a : Act = c.args.self.now.action in
    let qs : List Participant = c.participants-participants.result.now in
    subst (λ (b : Act). AreReady b c.args.states.now qs) (sym c.action-action.ensures)
    (ready_all p.types a p.members c.args.states.now qs c.participants-participants.ensures.found c.participants-participants.ensures.sound.members c.requires)

pub returns : goal.returns
returns c =
    let a : Act = c.args.self.now.action in
    let ns : List Node = c.args.states.now in
    let qs : List Participant = c.participants-participants.result.now in
    c.is_fault.ensures
    ∙ faulted_so (numbers_of qs) c.in_ok-consent.consent (asked 0 (components_of qs) (act_of c.action-action.result.now) (lent ns qs)) (c.in_ok-consent.ensures not_an_action)
    ∙ ap (λ (b : Act). is_faulted (asked 0 (components_of qs) b (lent ns qs))) c.action-action.ensures
    ∙ asked_of_all c.args.self.now.program a ns qs c.participants-participants.ensures.found c.requires
