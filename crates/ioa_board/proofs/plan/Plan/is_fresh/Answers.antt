use Rattle.std.proofs.Common.{◌≡◌, ◌<◌, ◌∙◌, All, length, sym, ap, subst}
use Rattle.ioa_system.specs.Participants.{taken}
use Rattle.ioa_system.specs.Systems.{slot_types, types_of}
use Rattle.ioa_system.proofs.Readying.{same_length}
use Rattle.ioa_board.specs.ProgramPlans.{ProgramPlan}
use Rattle.ioa_board.proofs.Numbers.{copied_count}
use Rattle.ioa_board.proofs.Performing.{numbers_within}
use Rattle.ioa_board.proofs.plan.Plan.is_fresh.Goals as goal
use Rattle.ioa_board.proofs.plan.Plan.is_fresh.Goals.{After-deref-2}

states_types : (c : After-deref-2) → types_of c.args.states.now ≡ slot_types c.self.inside.program.now.members
states_types c = c.requires ∙ ap (λ (p : ProgramPlan). slot_types p.program.members) (sym c.self.view_is)

within : (c : After-deref-2) → All (λ n. n < length c.args.states.now) c.deref.result.now
within c =
    subst (λ ns. All (λ n. n < length c.args.states.now) ns) (sym (c.deref.ensures.value ∙ c.self.invariant.numbers_are))
    (numbers_within c.self.inside.program.now _ (length c.args.states.now) (same_length c.self.inside.program.now.members c.args.states.now (states_types c)))

copied_types : (c : After-deref-2) → types_of c.deref-2.result.now ≡ taken c.deref.result.now (types_of c.args.states.now)
copied_types c =
    ap types_of c.deref-2.ensures.value ∙ c.self.invariant.copied_types
    ∙ ap (λ ns. taken ns (slot_types c.self.inside.program.now.members)) (sym c.deref.ensures.value) ∙ ap (taken c.deref.result.now) (sym (states_types c))

pub same_states-requires-clause-within : goal.same_states-requires-clause-within
same_states-requires-clause-within c = within ((goal.at.same_states-requires-clause-within c).After-deref-2)

pub same_states-requires-clause-count : goal.same_states-requires-clause-count
same_states-requires-clause-count c =
    let at = (goal.at.same_states-requires-clause-count c).After-deref-2 in
    copied_count c.deref.result.now c.args.states.now c.deref-2.result.now (within at) (copied_types at)

pub same_states-requires-clause-types : goal.same_states-requires-clause-types
same_states-requires-clause-types c = copied_types ((goal.at.same_states-requires-clause-types c).After-deref-2)
