use Rattle.std.proofs.Common.{◌∙◌}
use Rattle.ioa_tree.specs.Compositions.{instances_of}
use Rattle.ioa_tree.specs.Hosts.{host_instances}
use Rattle.ioa_compose.specs.Held.{composed_of}
use Rattle.ioa_account.proofs.Counting.{asked_alike}
use Rattle.ioa_account.proofs.counts.asked_invariants.Goals as goal

pub returns-clause-hosts : goal.returns-clause-hosts
returns-clause-hosts c = λ h stands.
    let composed = composed_of c.args.composition.now in
    c.asked_of_all.ensures ∙ asked_alike composed.invariants h.invariants (instances_of composed) (host_instances h) stands.invariants stands.automata
