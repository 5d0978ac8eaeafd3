use Rattle.std.proofs.Common.{◌≡◌, ◌<◌, ◌≤◌, ◌++◌, ℕ, true, false, List, drop, length, take, map, get_or, Some, slice_get, sym, ap, subst, ◌∙◌, arith}
use Rattle.std.specs.Prelude.{slice_index_or}
use Rattle.std.proofs.lemmas.List.{length-map, length-take-le, take-append-drop, take-map}
use Rattle.ioa_value.specs.declared.value.Value.{Value}
use Rattle.ioa_value.specs.Plain.{plain}
use Rattle.ioa_value.proofs.ItemLemmas.{item_there}
use Rattle.ioa_tree.specs.Instances.{state_of}
use Rattle.ioa_tree.specs.View.{invariant_of}
use Rattle.ioa_tree.specs.Compositions.{Member}
use Rattle.ioa_compose.specs.Faults.{condition_fault}
use Rattle.ioa_compose.specs.declared.member.Member as held
use Rattle.ioa_compose.specs.Held.{composed_of, member_of}
use Rattle.ioa_inspect.specs.Breaking.{IsState}
use Rattle.ioa_inspect.proofs.Breaking.{question, state_there, values_enough, values_first}
use Rattle.ioa_account.proofs.Faulting.{is_its, is_of_another, on_answer, over_types}
use Rattle.ioa_account.proofs.faults.state_fault.Goals as goal

-- the values of the component's own variables, as they are read and as they are asked for
first_values : (xs : List held.Member) (i : ℕ) (vs : List Value) (x y : held.Member) → IsState (map member_of xs) i (map plain vs) → x ≡ get_or xs i x → x ≡ y
    → (m : Member) → slice_get (map member_of xs) i ≡ Some m → map plain (take y.declared vs) ≡ take m.declared (map plain vs)
first_values xs i vs x y h e s =
    values_first xs i (map plain vs) h x e (map plain (take y.declared vs)) (ap (λ (z : held.Member). map plain (take z.declared vs)) (sym s) ∙ sym (take-map plain x.declared vs))

pub returns-then-not-is_about : goal.returns-then-not-is_about
returns-then-not-is_about c =
    let composed = composed_of c.args.composition.now in
    let vs = map plain c.args.values.now in
    let few : c.args.invariant < length composed.invariants = omega (arith, length-map c.args.composition.now.invariants invariant_of, c.requires.invariant) in
    let m = state_there (slice_get composed.members c.args.component) vs c.requires.state in
    let v = item_there composed.invariants c.args.invariant few in
    is_of_another composed vs c.args.component c.args.invariant m.0 v.0 m.1 v.1 (sym (c.if-not-is_about.ensures m.0 v.0 m.1 v.1))

pub slice_bounds-fault_of-end : goal.slice_bounds-fault_of-end
slice_bounds-fault_of-end c =
    let xs = c.args.composition.now.members in
    let i = c.args.component in
    let vs = c.args.values.now in
    let x = c.index-members-component.result in
    let e : x ≡ get_or xs i x = c.index-members-component.is ∙ ap (λ l. slice_index_or l i x) c.members.ensures.value in
    let enough : x.declared ≤ length (map plain vs) = values_enough xs i (map plain vs) c.requires.state x e c.members.ensures.sound.members in
    let few : x.declared ≤ length vs = omega (arith, length-map vs plain) in
    let long : x.declared ≡ length (take x.declared vs) = sym (length-take-le x.declared vs few) in
    subst (λ (y : held.Member). y.declared ≡ length (take y.declared vs)) c.index-members-component.is long

pub fault_of-requires : goal.fault_of-requires
fault_of-requires c =
    let xs = c.args.composition.now.members in
    let i = c.args.component in
    let vs = c.args.values.now in
    let x = c.index-members-component.result in
    let e : x ≡ get_or xs i x = c.index-members-component.is ∙ ap (λ l. slice_index_or l i x) c.members.ensures.value in
    record {
      asked =
          question (composed_of c.args.composition.now) i (map plain vs) c.args.invariant (map plain (take (slice_index_or c.members.result.now i x).declared vs)) c.requires.state
          (omega (arith, length-map c.args.composition.now.invariants invariant_of)) (λ m v k l. sym (c.if-not-is_about.ensures m v k l))
          (first_values xs i vs x (slice_index_or c.members.result.now i x) c.requires.state e c.index-members-component.is);
    }

pub returns : goal.returns
returns c =
    let composed = composed_of c.args.composition.now in
    let xs = c.args.composition.now.members in
    let i = c.args.component in
    let k = c.args.invariant in
    let vs = map plain c.args.values.now in
    let x = c.index-members-component.result in
    let y = slice_index_or c.members.result.now i x in
    let e : x ≡ get_or xs i x = c.index-members-component.is ∙ ap (λ l. slice_index_or l i x) c.members.ensures.value in
    let few : k < length composed.invariants = omega (arith, length-map c.args.composition.now.invariants invariant_of, c.requires.invariant) in
    let m = state_there (slice_get composed.members i) vs c.requires.state in
    let v = item_there composed.invariants k few in
    let ws = map plain (take y.declared c.args.values.now) in
    let parts : ws ++ drop m.0.declared vs ≡ vs =
    ap (λ us. us ++ drop m.0.declared vs) (first_values xs i c.args.values.now x y c.requires.state e c.index-members-component.is m.0 m.1) ∙ take-append-drop m.0.declared vs in
    on_answer c.fault_of.result
    (λ f said. is_its composed vs i k m.0 v.0 m.1 v.1 (sym (c.if-not-is_about.ensures m.0 v.0 m.1 v.1)) (over_types composed.types composed.members i m.0 c.members.ensures.sound.over m.1) f
    (subst (λ us. f ≡ condition_fault m.0.instance.types m.0.instance v.0.condition (state_of m.0.instance.automaton us)) parts (said m.0 v.0 m.1 v.1 (drop m.0.declared vs))))
    c.fault_of.ensures
