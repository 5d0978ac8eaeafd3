use Rattle.std.proofs.Common.{◌≡◌, map, take, ap, subst, sym, ◌∙◌}
use Rattle.std.proofs.lemmas.List.{take_min, take-map}
use Rattle.ioa_value.specs.Actions.{act_of}
use Rattle.ioa_tree.specs.Compositions.{components_of, starts_of}
use Rattle.ioa_tree.specs.Hosts.{host_starts, hosts_of}
use Rattle.ioa_tree.specs.Likes.{AllRelated}
use Rattle.ioa_tree.specs.Runs.{run}
use Rattle.ioa_compose.specs.Held.{composed_of}
use Rattle.ioa_compose.specs.Simulates.{SlotsHoldAt}
use Rattle.ioa_compile.specs.Subjects.{of_composition, of_hosts}
use Rattle.ioa_system.specs.Systems.{values_of}
use Rattle.ioa_system.proofs.Subjects.{hosts_run}
use Rattle.ioa_inspect.proofs.Breaking.{are_states}
use Rattle.ioa_account.proofs.Faulting.{on_answer}
use Rattle.ioa_account.proofs.remarks.run_before.Goals as goal

pub returns-clause-states : goal.returns-clause-states
returns-clause-states c =
    let composed = composed_of c.args.composition.now in
    on_answer c.run_list.result
    (λ r runs. are_states composed.members (run (components_of composed) (map act_of (take c.min-before.result c.args.actions.now)) (starts_of composed)).states (values_of r.states.items)
    (runs (of_composition composed) c.in_ok-program.ensures).reached.states)
    c.run_list.ensures

pub returns-clause-hosts : goal.returns-clause-hosts
returns-clause-hosts c =
    let xs = c.args.actions.now in
    let composed = composed_of c.args.composition.now in
    let same : map act_of (take c.min-before.result xs) ≡ take c.args.count (map act_of xs) =
    ap (map act_of) (ap (λ k. take k xs) c.min-before.ensures ∙ take_min c.args.count xs) ∙ sym (take-map act_of c.args.count xs) in
    on_answer c.run_list.result
    (λ r runs h stands.
    subst (λ acts. AllRelated (SlotsHoldAt h.hosts) 0 (run (hosts_of h) acts (host_starts h)).states (values_of r.states.items)) same
    (hosts_run c.in_ok-program.program h (map act_of (take c.min-before.result xs)) r (runs (of_hosts h) (composed, stands, c.in_ok-program.ensures))).states)
    c.run_list.ensures
