use Rattle.std.proofs.Common.{◌≡◌, ◌<◌, ℕ, List, length, Ok, sym, ap, subst, ◌∙◌, arith}
use Rattle.std.proofs.lemmas.Result.{IfOk-at_ok}
use Rattle.ioa_value.specs.Actions.{Act, act_of}
use Rattle.ioa_node.specs.Drafts.{Fits, Marked, standing}
use Rattle.ioa_parts.specs.Nodes.{Node}
use Rattle.ioa_parts.specs.Runs.{left_by}
use Rattle.ioa_system.specs.declared.participation.Participant.{Participant}
use Rattle.ioa_system.specs.Found.{component_of, state_of}
use Rattle.ioa_system.proofs.Stepping.{AtTurn, at_turn, state_is, acts_next}
use Rattle.ioa_system.proofs.steps.effects.Goals as goal

pub loop-i-preserved : goal.loop-i-preserved
loop-i-preserved c =
    let a : Act = act_of c.args.action.now in
    let ns : List Node = c.args.states.now in
    let qs : List Participant = c.args.participants.now in
    let k : ℕ = c.loop-i.i in
    let q : Participant = c.index-participants-i.result in
    let n : Node = c.index-states-participant.result in
    let d : Marked = c.effect_on.new.draft in
    let room : k < length c.loop-i.drafts = omega (arith, c.requires.room, c.loop-i.auto.drafts) in
    let turn : AtTurn a ns qs k q = at_turn a ns qs k q c.requires.ready c.loop-i-test.true c.index-participants-i.is in
    let here : n ≡ state_of ns q = state_is ns q n turn.lent c.index-states-participant.is in
    let value : Ok (standing d n) ≡ (component_of q).effect a n.values = ap (λ r. left_by r (standing d n)) (sym c.in-Ok.is) ∙ c.in_ok-effect_on.ensures.value in
    let fits : Fits d n = IfOk-at_ok (λ _. Fits d n) c.in-Ok.is c.in_ok-effect_on.ensures.fits in
    acts_next a ns qs c.loop-i.drafts k q d c.loop-i.invariant turn c.loop-i-test.true c.index-participants-i.is room
    (subst (λ (x : Node). Ok (standing d x) ≡ (component_of q).effect a x.values) here value)
    (subst (Fits d) here fits)
