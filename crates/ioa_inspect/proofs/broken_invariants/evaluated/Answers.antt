use Rattle.std.proofs.Common.{◌≡◌, ◌≤◌, ℕ, List, length, take, map, get_or, Some, slice_get, sym, ap, subst, ◌∙◌, arith}
use Rattle.std.specs.Prelude.{slice_index_or}
use Rattle.std.proofs.lemmas.List.{length-map, length-take-le, take-map}
use Rattle.std.proofs.lemmas.Result.{IfOk-weaker}
use Rattle.ioa_value.specs.declared.value.Value.{Value}
use Rattle.ioa_value.specs.Plain.{plain}
use Rattle.ioa_tree.specs.View.{invariant_of}
use Rattle.ioa_tree.specs.Compositions.{Member}
use Rattle.ioa_compose.specs.declared.member.Member as held
use Rattle.ioa_compose.specs.Held.{member_of, composed_of}
use Rattle.ioa_inspect.specs.Breaking.{IsState}
use Rattle.ioa_inspect.proofs.Breaking.{question, answered, values_enough, values_first}
use Rattle.ioa_inspect.proofs.broken_invariants.evaluated.Goals as goal

-- the values of the component's own variables, as they are read and as they are asked for
first_values : (xs : List held.Member) (i : ℕ) (vs : List Value) (x y : held.Member) → IsState (map member_of xs) i (map plain vs) → x ≡ get_or xs i x → x ≡ y
    → (m : Member) → slice_get (map member_of xs) i ≡ Some m → map plain (take y.declared vs) ≡ take m.declared (map plain vs)
first_values xs i vs x y h e s =
    values_first xs i (map plain vs) h x e (map plain (take y.declared vs)) (ap (λ (z : held.Member). map plain (take z.declared vs)) (sym s) ∙ sym (take-map plain x.declared vs))

pub slice_bounds-holds-end : goal.slice_bounds-holds-end
slice_bounds-holds-end c =
    let xs = c.args.composition.now.members in
    let i = c.args.component in
    let vs = c.args.values.now in
    let x = c.index-members-component.result in
    let e : x ≡ get_or xs i x = c.index-members-component.is ∙ ap (λ l. slice_index_or l i x) c.members.ensures.value in
    let enough : x.declared ≤ length (map plain vs) = values_enough xs i (map plain vs) c.requires.state x e c.members.ensures.sound.members in
    let few : x.declared ≤ length vs = omega (arith, length-map vs plain) in
    let long : x.declared ≡ length (take x.declared vs) = sym (length-take-le x.declared vs few) in
    subst (λ (y : held.Member). y.declared ≡ length (take y.declared vs)) c.index-members-component.is long

pub holds-requires : goal.holds-requires
holds-requires c =
    let xs = c.args.composition.now.members in
    let i = c.args.component in
    let vs = c.args.values.now in
    let x = c.index-members-component.result in
    let e : x ≡ get_or xs i x = c.index-members-component.is ∙ ap (λ l. slice_index_or l i x) c.members.ensures.value in
    record {
      asked =
          question (composed_of c.args.composition.now) i (map plain vs) c.args.invariant (map plain (take (slice_index_or c.members.result.now i x).declared vs)) c.requires.state
          (omega (arith, length-map c.args.composition.now.invariants invariant_of)) c.requires.about
          (first_values xs i vs x (slice_index_or c.members.result.now i x) c.requires.state e c.index-members-component.is);
    }

pub returns : goal.returns
returns c =
    let xs = c.args.composition.now.members in
    let i = c.args.component in
    let vs = c.args.values.now in
    let x = c.index-members-component.result in
    let e : x ≡ get_or xs i x = c.index-members-component.is ∙ ap (λ l. slice_index_or l i x) c.members.ensures.value in
    IfOk-weaker c.holds.result _ _ (λ b h. answered (composed_of c.args.composition.now) i (map plain vs) b c.args.invariant (map plain (take (slice_index_or c.members.result.now i x).declared vs))
    (first_values xs i vs x (slice_index_or c.members.result.now i x) c.requires.state e c.index-members-component.is) h) c.holds.ensures
