use Rattle.std.proofs.Common.{◌≡◌, ◌++◌, List, length, drop, take, ap, subst, sym, ◌∙◌, rules}
use Rattle.std.proofs.lemmas.Result.{IfOk-weaker, on_err_weaker}
use Rattle.ioa_value.specs.Plain.{Val}
use Rattle.ioa_parts.specs.Nodes.{Node}
use Rattle.ioa_tree.specs.Steps as steps
use Rattle.ioa_compile.specs.Programs.{Prog}
use Rattle.ioa_compile.specs.Tables.{tabled}
use Rattle.ioa_system.specs.declared.outcomes.Step.{Step}
use Rattle.ioa_system.specs.Outcomes.{KeepsUnlessNext, step_of}
use Rattle.ioa_system.specs.Systems.{Running, slot_types, types_of, values_of}
use Rattle.ioa_system.proofs.Running.{kept_values, lent_whole, running}
use Rattle.ioa_system.proofs.system.System.step_by.Goals as goal
use Rattle.ioa_system.proofs.system.System.step_by.Goals.{After-step}

-- the participation is of the program that runs
same_program : (c : After-step) → c.args.participation.now.program ≡ c.self.inside.program.now
same_program c = c.requires ∙ sym (ap (λ (r : Running). r.program) c.self.view_is)

old_values : (c : After-step) → values_of c.deref_mut.result.now ≡ c.args.self.now.states
old_values c = ap values_of c.deref_mut.ensures.value ∙ ap (λ (r : Running). r.states) c.self.view_is

whole : (c : After-step) → take c.self.inside.states.len (c.step.new.states ++ drop (length c.step.new.states) c.self.inside.states.items) ≡ c.step.new.states
whole c = lent_whole c.self.inside.states.len c.self.inside.states.items c.deref_mut.result.now c.step.new.states c.deref_mut.ensures.value c.step.ensures.types (search rules)

pub step-requires : goal.step-requires
step-requires c =
    ap types_of c.deref_mut.ensures.value ∙ c.self.invariant
    ∙ ap (λ (p : Prog). slot_types p.members) (sym (c.requires ∙ sym (ap (λ (r : Running). r.program) c.self.view_is)))

pub invariant_of-self : goal.invariant_of-self
invariant_of-self c =
    let at = (goal.at.invariant_of-self c).After-step in
    rw (whole at) (c.step.ensures.types ∙ ap types_of c.deref_mut.ensures.value ∙ c.self.invariant)

pub returns-clause-step : goal.returns-clause-step
returns-clause-step c =
    let at = (goal.at.returns-clause-step c).After-step in
    rw (whole at)
    (IfOk-weaker c.step.result _ (λ (s : Step). step_of s (values_of c.step.new.states) ≡ steps.step (tabled c.args.self.now.program) c.args.participation.now.action c.args.self.now.states)
    (λ s h. h ∙ ap (λ (p : Prog). steps.step (tabled p) c.args.participation.now.action (values_of c.deref_mut.result.now)) c.requires
    ∙ ap (λ (ss : List (List Val)). steps.step (tabled c.args.self.now.program) c.args.participation.now.action ss) (old_values at))
    c.step.ensures.step)

pub returns-clause-kept : goal.returns-clause-kept
returns-clause-kept c =
    let at = (goal.at.returns-clause-kept c).After-step in
    rw (whole at)
    (IfOk-weaker c.step.result _ (λ (s : Step). KeepsUnlessNext s c.args.self.now.states (values_of c.step.new.states))
    (λ s h. subst (λ (ss : List (List Val)). KeepsUnlessNext s ss (values_of c.step.new.states)) (old_values at) (kept_values s c.deref_mut.result.now c.step.new.states h))
    c.step.ensures.kept)

pub returns-clause-memory : goal.returns-clause-memory
returns-clause-memory c =
    let at = (goal.at.returns-clause-memory c).After-step in
    rw (whole at)
    (on_err_weaker c.step.result
    (λ (e : c.step.new.states ≡ c.deref_mut.result.now). ap (λ (ns : List Node). running c.self.inside.program.now (values_of ns)) (e ∙ c.deref_mut.ensures.value) ∙ c.self.view_is)
    c.step.ensures.memory)
