use Rattle.std.proofs.Common.{ap, ◌∙◌, sym, subst}
use Rattle.ioa_system.specs.declared.outcomes.Step.{Step}
use Rattle.ioa_system.specs.Outcomes.{IfNext, step_of}
use Rattle.ioa_system.specs.Drafted.{AreDrafts, drafted}
use Rattle.ioa_system.specs.Found.{numbers_of}
use Rattle.ioa_system.specs.Participants.{all_back}
use Rattle.ioa_system.specs.Systems.{values_of}
use Rattle.ioa_system.proofs.Running.{types_put, values_put}
use Rattle.ioa_system.proofs.stepper.settle.Goals as goal

pub returns-in-Next-clause-step : goal.returns-in-Next-clause-step
returns-in-Next-clause-step c =
    let all = drafted c.args.states.now c.args.participants.now c.args.drafts.now in
    ap (λ (s : Step). step_of s (values_of c.install.new.states)) c.in-Next.is
    ∙ values_put (numbers_of c.args.participants.now) all c.args.states.now c.install.new.states c.install.ensures
    ∙ ap (λ (s : Step). all_back (numbers_of c.args.participants.now) (values_of c.args.states.now) (step_of s (values_of all))) (sym c.in-Next.is)

pub returns-in-Next-clause-types : goal.returns-in-Next-clause-types
returns-in-Next-clause-types c =
    types_put c.args.participants.now c.args.drafts.now c.args.states.now c.install.new.states c.requires.places
    (subst (λ s. IfNext s (AreDrafts c.args.states.now c.args.participants.now c.args.drafts.now)) c.in-Next.is c.requires.drafts) c.install.ensures
