use Rattle.std.proofs.Common.{◌≡◌, Some, None, map, slice_get, ap, sym, subst, ◌∙◌}
use Rattle.std.specs.Option.{option_and_then, option_map}
use Rattle.std.proofs.lemmas.Option.{slice_get-map, slice_get_past}
use Rattle.ioa_value.proofs.ItemLemmas.{at_map}
use Rattle.ioa_value.specs.Plain.{plain}
use Rattle.ioa_parts.specs.Nodes.{Node}
use Rattle.ioa_compose.specs.Held.{composed_of}
use Rattle.ioa_system.specs.Systems.{values_of}
use Rattle.ioa_inspect.specs.Breaking.{IsState}
use Rattle.ioa_account.specs.Faults.{fault_at, state_fault}
use Rattle.ioa_account.proofs.Faulting.{on_answer, state_at}
use Rattle.ioa_account.proofs.faults.slots_fault.Goals as goal

pub state_fault-requires : goal.state_fault-requires
state_fault-requires c =
    let found = c.in-Some.ensures.lookup in
    let ms = (composed_of c.args.composition.now).members in
    let values : map plain c.deref.result.now ≡ c.in-Some.state.now.values = ap (map plain) c.deref.ensures.value ∙ c.in_ok-values-in-Some.ensures in
    record {
      state =
          subst (IsState ms c.args.component) (sym values)
          (state_at ms (values_of c.args.states.now) c.args.component c.in-Some.state.now.values c.requires.states
          (at_map (λ (x : Node). x.values) c.args.states.now c.args.component c.in-Some.state.now found.3.0 found.1));
      invariant = c.requires.invariant;
    }

pub returns-in_ok-values-in-Some : goal.returns-in_ok-values-in-Some
returns-in_ok-values-in-Some c =
    let found = c.in-Some.ensures.lookup in
    let composed = composed_of c.args.composition.now in
    let at = at_map (λ (x : Node). x.values) c.args.states.now c.args.component c.in-Some.state.now found.3.0 found.1 in
    let values : map plain c.deref.result.now ≡ c.in-Some.state.now.values = ap (map plain) c.deref.ensures.value ∙ c.in_ok-values-in-Some.ensures in
    on_answer c.state_fault.result
    (λ f e. e ∙ ap (λ vs. state_fault composed vs c.args.component c.args.invariant) values
    ∙ sym (ap (option_and_then (fault_at composed.types (slice_get composed.invariants c.args.invariant) composed.members c.args.component)) at))
    c.state_fault.ensures

pub returns-in-None : goal.returns-in-None
returns-in-None c =
    let composed = composed_of c.args.composition.now in
    let past : slice_get c.args.states.now c.args.component ≡ None = slice_get_past c.args.states.now c.args.component c.in-None.ensures.lookup.3 in
    sym (ap (option_and_then (fault_at composed.types (slice_get composed.invariants c.args.invariant) composed.members c.args.component))
    (slice_get-map (λ (x : Node). x.values) c.args.states.now c.args.component ∙ ap (option_map (λ (x : Node). x.values)) past))
