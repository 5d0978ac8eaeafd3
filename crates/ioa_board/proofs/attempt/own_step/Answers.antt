use Rattle.std.proofs.Common.{◌≡◌, ◌++◌, List, Option, length, drop, take, ap, subst, sym, ◌∙◌, rules}
use Rattle.std.proofs.lemmas.Result.{IfOk-weaker, on_err_weaker}
use Rattle.ioa_value.specs.Actions.{act_of}
use Rattle.ioa_parts.specs.Nodes.{Node}
use Rattle.ioa_system.specs.declared.outcomes.Step.{Step}
use Rattle.ioa_system.specs.ProgramActions.{ProgramAction}
use Rattle.ioa_system.specs.Systems.{slot_types, types_of}
use Rattle.ioa_system.proofs.Running.{lent_whole}
use Rattle.ioa_board.specs.Attempted.{OwnStep}
use Rattle.ioa_board.proofs.attempt.own_step.Goals as goal
use Rattle.ioa_board.proofs.attempt.own_step.Goals.{After-give_back}

whole : (c : After-give_back) → take c.args.states.now.len (c.step_by-step.new.states ++ drop (length c.step_by-step.new.states) c.args.states.now.items) ≡ c.step_by-step.new.states
whole c = lent_whole c.args.states.now.len c.args.states.now.items c.deref_mut.result.now c.step_by-step.new.states c.deref_mut.ensures.value c.step_by-step.ensures.types (search rules)

pub step_by-step-requires : goal.step_by-step-requires
step_by-step-requires c =
    ap types_of c.deref_mut.ensures.value ∙ c.requires.types ∙ ap (λ (q : ProgramAction). slot_types q.program.members) (sym c.in_ok-participation.ensures)

pub returns-clause-value : goal.returns-clause-value
returns-clause-value c =
    let at = (goal.at.returns-clause-value c).After-give_back in
    rw (whole at)
    (IfOk-weaker c.step_by-step.result _ (λ (r : Option Step). OwnStep c.args.program.now c.args.who (act_of c.args.action.now) c.args.states.now.items r c.step_by-step.new.states)
    (λ r h.
    subst (λ (ns : List Node). OwnStep c.args.program.now c.args.who (act_of c.args.action.now) ns r c.step_by-step.new.states) c.deref_mut.ensures.value
    (subst (λ (q : ProgramAction). OwnStep q.program c.args.who q.action c.deref_mut.result.now r c.step_by-step.new.states) c.in_ok-participation.ensures h))
    c.step_by-step.ensures.value)

pub returns-clause-types : goal.returns-clause-types
returns-clause-types c =
    let at = (goal.at.returns-clause-types c).After-give_back in
    rw (whole at) (c.step_by-step.ensures.types ∙ ap types_of c.deref_mut.ensures.value)

pub returns-clause-memory : goal.returns-clause-memory
returns-clause-memory c =
    let at = (goal.at.returns-clause-memory c).After-give_back in
    rw (whole at) (on_err_weaker c.step_by-step.result (λ (e : c.step_by-step.new.states ≡ c.deref_mut.result.now). e ∙ c.deref_mut.ensures.value) c.step_by-step.ensures.memory)
