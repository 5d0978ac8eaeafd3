use Rattle.std.proofs.Common.{ap, ◌∙◌, subst}
use Rattle.ioa_code.specs.Stacks.{node_at, IsNumbered}
use Rattle.ioa_code.proofs.Numbered.{rest_is_number}
use Rattle.ioa_code.proofs.stacks.top.Goals as goal

pub returns-clause-number : goal.returns-clause-number
returns-clause-number c =
    let found = c.node.ensures ∙ ap (λ l. node_at l c.args.stack) c.deref.ensures.value ∙ ap (λ s. node_at s.nodes c.args.stack) c.stacks.view_is in
    rest_is_number c.args.stacks.now (subst IsNumbered c.stacks.view_is c.stacks.invariant) c.args.stack c.node.result found
