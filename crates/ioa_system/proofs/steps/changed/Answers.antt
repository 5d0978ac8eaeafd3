use Rattle.std.proofs.Common.{◌≡◌, ◌<◌, ◌++◌, ◌∷◌, [], List, length, sym, ap, subst, ◌∙◌, arith}
use Rattle.ioa_parts.specs.Nodes.{Node}
use Rattle.ioa_node.specs.Drafts.{Fits, Marked, with_draft}
use Rattle.ioa_system.specs.declared.participation.Participant.{Participant}
use Rattle.ioa_system.specs.Found.{IsLent, state_of}
use Rattle.ioa_system.proofs.Drafting.{drafted_more, fit_at}
use Rattle.ioa_system.proofs.Stepping.{state_is}
use Rattle.ioa_system.proofs.steps.changed.Goals as goal
use Rattle.ioa_system.proofs.steps.changed.Goals.{In_ok-state}

-- the copy equals the participant's state
copied : (c : In_ok-state) → c.in_ok-state.state ≡ state_of c.args.states.now c.index-participants-i.result
copied c =
    let qs : List Participant = c.args.participants.now in
    let q : Participant = c.index-participants-i.result in
    let lent : IsLent c.args.states.now q = subst (IsLent c.args.states.now) (sym c.index-participants-i.is) (c.requires.states c.loop-i.i q c.loop-i-test.true) in
    c.in_ok-state.ensures ∙ state_is c.args.states.now q c.index-states-participant.result lent c.index-states-participant.is

pub change-requires : goal.change-requires
change-requires c =
    let at = (goal.at.change-requires c).In_ok-state in
    let k = c.loop-i.i in
    let room : k < length c.args.drafts.now = omega (arith, c.requires.drafts.count, c.loop-i-test.true) in
    subst (Fits c.index-drafts-i.result) (sym (copied at))
    (fit_at c.args.states.now c.args.participants.now c.args.drafts.now k c.index-participants-i.result c.index-drafts-i.result c.loop-i-test.true c.index-participants-i.is room c.index-drafts-i.is c.requires.drafts.fit)

pub loop-i-preserved : goal.loop-i-preserved
loop-i-preserved c =
    let at = (goal.at.loop-i-preserved c).In_ok-state in
    let k = c.loop-i.i in
    let d : Marked = c.index-drafts-i.result in
    let room : k < length c.args.drafts.now = omega (arith, c.requires.drafts.count, c.loop-i-test.true) in
    let new : c.change.new.self ≡ with_draft d (state_of c.args.states.now c.index-participants-i.result) = c.change.ensures ∙ ap (with_draft d) (copied at) in
    c.in_ok-push.ensures.items ∙ ap (λ (n : Node). c.loop-i.after.items ++ n ∷ []) new
    ∙ ap (λ ns. ns ++ with_draft d (state_of c.args.states.now c.index-participants-i.result) ∷ []) c.loop-i.invariant
    ∙ sym (drafted_more c.args.states.now c.args.participants.now c.args.drafts.now k c.index-participants-i.result d c.loop-i-test.true c.index-participants-i.is room c.index-drafts-i.is)
