use Rattle.std.proofs.Common.{◌≡◌, ◌<◌, ◌++◌, ◌∙◌, ap, drop, take, length, subst, rules}
use Rattle.ioa_value.specs.Actions.{act_of}
use Rattle.ioa_system.specs.Drafted.{drafted}
use Rattle.ioa_system.specs.Systems.{values_of}
use Rattle.ioa_system.proofs.Participating.{written_anew}
use Rattle.ioa_system.proofs.Stepping.{Answers, answers, told}
use Rattle.ioa_system.proofs.steps.moved.Goals as goal
use Rattle.ioa_system.proofs.steps.moved.Goals.{In_ok-asked, After-effects}

answered : (c : In_ok-asked) → Answers (act_of c.args.action.now) c.args.states.now c.args.participants.now c.in_ok-asked.field-0
answered c =
    let l : 0 < length c.args.participants.now = search rules in
    answers (act_of c.args.action.now) c.args.states.now c.args.participants.now c.in_ok-asked.field-0 c.requires l c.in_ok-asked.ensures

-- the drafts that the effects leave are those that stand after them
whole : (c : After-effects) → take c.make_room.new.drafts.len (c.effects.new.drafts ++ drop (length c.effects.new.drafts) c.make_room.new.drafts.items) ≡ c.effects.new.drafts
whole c = written_anew c.make_room.new.drafts.len c.effects.new.drafts c.make_room.new.drafts.items (c.effects.auto.drafts ∙ ap length c.deref_mut.ensures.value) (search rules)

pub returns-in-Given-clause-value : goal.returns-in-Given-clause-value
returns-in-Given-clause-value c =
    let at = (goal.at.returns-in-Given-clause-value c).After-effects in
    let ts = values_of (drafted c.args.states.now c.args.participants.now c.effects.new.drafts) in
    rw (whole at)
    (told c.effects.result ts _ _
    (subst (Answers (act_of c.args.action.now) c.args.states.now c.args.participants.now) c.in-Given.is (answered ((goal.at.returns-in-Given-clause-value c).In_ok-asked)))
    c.effects.ensures.value)

pub returns-in-Denied-clause-value : goal.returns-in-Denied-clause-value
returns-in-Denied-clause-value c =
    subst (Answers (act_of c.args.action.now) c.args.states.now c.args.participants.now) c.in-Denied.is (answered ((goal.at.returns-in-Denied-clause-value c).In_ok-asked))

pub returns-in-Faulted-clause-value : goal.returns-in-Faulted-clause-value
returns-in-Faulted-clause-value c =
    subst (Answers (act_of c.args.action.now) c.args.states.now c.args.participants.now) c.in-Faulted.is (answered ((goal.at.returns-in-Faulted-clause-value c).In_ok-asked))
