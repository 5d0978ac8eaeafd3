use Rattle.std.proofs.Common.{◌++◌, map, string_bytes, ap₂, sym, subst, ◌∙◌}
use Rattle.ioa_value.specs.Actions.{act_of}
use Rattle.ioa_tree.specs.Likes.{AllRelated}
use Rattle.ioa_compose.specs.Simulates.{SlotsHoldAt}
use Rattle.ioa_system.specs.Systems.{values_of}
use Rattle.ioa_inspect.specs.Breaking.{AreStates, broken_of}
use Rattle.ioa_compose.specs.Held.{composed_of}
use Rattle.ioa_account.specs.Accounts.{name_at}
use Rattle.ioa_account.specs.Remarks.{broken_after, broken_fault, broken_state, invariant_text, states_before}
use Rattle.ioa_account.proofs.Remarking.{on_ok, three_put}
use Rattle.ioa_account.proofs.remarks.put_broken.Goals as goal

pub invariant_fault-requires : goal.invariant_fault-requires
invariant_fault-requires c =
    subst (λ ns. AreStates (composed_of c.args.told.now.composition.now).members (values_of ns)) (sym c.deref.ensures.value) c.in_ok-run.ensures.states

pub returns : goal.returns
returns c =
    let t = c.args.told.now in
    let b = c.args.broken in
    let acts = map act_of c.args.actions.now in
    on_ok c.put_component.result
    (λ puts h stands.
    let reached = states_before h acts b.state in
    let holds = c.in_ok-run.ensures.hosts h stands in
    three_put (string_bytes c.args.text.now) (broken_after t b.state (name_at h.hosts b.component) (broken_fault h acts (broken_of b))) (invariant_text t b.invariant)
    (broken_state h acts (broken_of b)) _ _ _
    (c.in_ok-put_broken_after.ensures ∙ ap₂ (λ x f. string_bytes c.args.text.now ++ broken_after t b.state x f) (c.name_at-name.ensures h stands)
    (c.in_ok-fault.ensures h reached stands (subst (λ ns. AllRelated (SlotsHoldAt h.hosts) 0 reached (values_of ns)) (sym c.deref.ensures.value) holds)))
    c.in_ok-put_invariant.ensures
    (puts h reached stands (subst (λ ns. AllRelated (SlotsHoldAt h.hosts) 0 reached (values_of ns)) (sym c.deref-2.ensures.value) holds)))
    c.put_component.ensures
