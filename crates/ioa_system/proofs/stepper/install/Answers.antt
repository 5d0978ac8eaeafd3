use Rattle.std.proofs.Common.{◌+◌, List, set, sym, subst}
use Rattle.ioa_parts.specs.Nodes.{Node}
use Rattle.ioa_system.specs.declared.participation.Participant.{Participant}
use Rattle.ioa_system.proofs.Drafting.{Installs, fit_next, installs_next}
use Rattle.ioa_system.proofs.stepper.install.Goals as goal

pub change-requires : goal.change-requires
change-requires c =
    fit_next c.args.states.now c.args.drafts.now c.args.participants.now c.loop-i.i c.loop-i.states c.index-participants-i.result c.index-drafts-i.result c.index-states-participant.result
    c.loop-i.invariant c.requires.places c.requires.drafts c.loop-i.auto.states c.loop-i-test.true c.index-participants-i.is c.index-drafts-i.is

pub loop-i-preserved : goal.loop-i-preserved
loop-i-preserved c =
    let qs : List Participant = c.args.participants.now in
    let q : Participant = c.index-participants-i.result in
    subst (λ (y : Node). Installs c.args.states.now c.args.drafts.now qs (c.loop-i.i + 1) (set c.loop-i.states q.component y)) (sym c.change.ensures)
    (installs_next c.args.states.now c.args.drafts.now qs c.loop-i.i c.loop-i.states q c.index-drafts-i.result c.index-states-participant.result
    c.loop-i.invariant c.requires.places c.requires.drafts c.loop-i.auto.states c.loop-i-test.true c.index-participants-i.is c.index-drafts-i.is)
