use Rattle.std.proofs.Common.{ap, ◌∙◌, subst}
use Rattle.ioa_system.specs.Outcomes.{IfNext}
use Rattle.ioa_system.specs.Drafted.{AreDrafts}
use Rattle.ioa_system.specs.Systems.{types_of}
use Rattle.ioa_system.proofs.Drafting.{drafted_lent}
use Rattle.ioa_system.proofs.steps.answer.Goals as goal

pub returns-in_ok-changed-in-Next-clause-types : goal.returns-in_ok-changed-in-Next-clause-types
returns-in_ok-changed-in-Next-clause-types c =
    let drafts : AreDrafts c.args.states.now c.args.participants.now c.args.drafts.now = subst (λ s. IfNext s (AreDrafts c.args.states.now c.args.participants.now c.args.drafts.now)) c.in-Next.is c.requires.drafts in
    ap types_of c.in_ok-changed-in-Next.ensures ∙ drafted_lent c.args.states.now c.args.participants.now c.args.drafts.now c.requires.states drafts.count
