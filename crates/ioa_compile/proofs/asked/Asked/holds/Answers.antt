use Rattle.std.proofs.Common.{◌≡◌, ◌<◌, ℕ, List, [], length, map, get_or, Option, Some, Vec, refl, sym, ap, ◌∙◌, subst, arith, rules}
use Rattle.std.specs.Prelude.{slice_get}
use Rattle.std.specs.Global.{Global}
use Rattle.std.specs.Option.{option_map}
use Rattle.std.proofs.lemmas.List.{length-map}
use Rattle.std.proofs.lemmas.Option.{slice_get-map, slice_get_read}
use Rattle.ioa_value.specs.Typing.{HaveTypes}
use Rattle.ioa_code.specs.Valid.{Part}
use Rattle.ioa_tree.specs.View.{invariant_of}
use Rattle.ioa_tree.specs.WellFormed.{variable_fields}
use Rattle.ioa_compose.specs.Held.{Held, composed_of, member_of}
use Rattle.ioa_compose.specs.Questions.{OfThese}
use Rattle.ioa_compile.specs.Asking.{AreAsked, Asks}
use Rattle.ioa_compile.proofs.Asking.{Found, found, same_types, says, says_no}
use Rattle.ioa_compile.proofs.asked.Asked.holds.Goals as goal

read : {X : Type 0} (xs ys : List X) (i : ℕ) (x : X) → i < length xs → x ≡ get_or xs i x → xs ≡ ys → slice_get ys i ≡ Some x
read xs ys i x within is same = subst (λ zs. slice_get zs i ≡ Some x) same (slice_get_read xs (length xs) i x refl within is)

module _ (h : Held) (codes : List (Vec (Option Part) Global)) (i k : ℕ) (parts : Vec (Option Part) Global) (part : Part) (all : AreAsked (composed_of h) (map (λ (v : Vec (Option Part) Global). v.items) codes)) (here : slice_get codes i ≡ Some parts) (there : slice_get parts.items k ≡ Some (Some part)) where
  parts_here : slice_get (map (λ (v : Vec (Option Part) Global). v.items) codes) i ≡ Some parts.items
  parts_here = slice_get-map (λ (v : Vec (Option Part) Global). v.items) codes i ∙ ap (option_map (λ (v : Vec (Option Part) Global). v.items)) here

  asked : OfThese (composed_of h) i k (λ m v. Asks m v.condition part)
  asked = all i parts.items parts_here k part there

  its : i < length h.members → k < length h.invariants → Found (composed_of h) i k part
  its few small =
      found (composed_of h) (map (λ (v : Vec (Option Part) Global). v.items) codes) i k parts.items part all
      (omega (arith, few, length-map h.members member_of)) (omega (arith, small, length-map h.invariants invariant_of)) parts_here there

pub enabled_with-requires-clause-kind : goal.enabled_with-requires-clause-kind
enabled_with-requires-clause-kind c =
    let all = subst (λ h. AreAsked (composed_of h) (map (λ (v : Vec (Option Part) Global). v.items) c.self.inside.codes.items)) c.self.view_is c.self.invariant in
    let here = read c.deref.result.now c.self.inside.codes.items c.args.component c.in-Some.codes.now c.in-Some.ensures.lookup.3.0 c.in-Some.ensures.lookup.1 c.deref.ensures.value in
    let code : c.in-Some-Some.field-0.now ≡ Some c.in-Some-Some.code = search rules in
    let there = read c.deref-2.result.now c.in-Some.codes.now.items c.args.invariant c.in-Some-Some.field-0.now c.in-Some-Some.ensures.lookup.3.0 c.in-Some-Some.ensures.lookup.1 c.deref-2.ensures.value ∙ ap Some code in
    (its c.args.self.now c.self.inside.codes.items c.args.component c.args.invariant c.in-Some.codes.now c.in-Some-Some.code all here there c.requires.there c.requires.asked).asks.kind

pub enabled_with-requires-clause-result : goal.enabled_with-requires-clause-result
enabled_with-requires-clause-result c =
    let all = subst (λ h. AreAsked (composed_of h) (map (λ (v : Vec (Option Part) Global). v.items) c.self.inside.codes.items)) c.self.view_is c.self.invariant in
    let here = read c.deref.result.now c.self.inside.codes.items c.args.component c.in-Some.codes.now c.in-Some.ensures.lookup.3.0 c.in-Some.ensures.lookup.1 c.deref.ensures.value in
    let code : c.in-Some-Some.field-0.now ≡ Some c.in-Some-Some.code = search rules in
    let there = read c.deref-2.result.now c.in-Some.codes.now.items c.args.invariant c.in-Some-Some.field-0.now c.in-Some-Some.ensures.lookup.3.0 c.in-Some-Some.ensures.lookup.1 c.deref-2.ensures.value ∙ ap Some code in
    (its c.args.self.now c.self.inside.codes.items c.args.component c.args.invariant c.in-Some.codes.now c.in-Some-Some.code all here there c.requires.there c.requires.asked).asks.result

pub enabled_with-requires-clause-types : goal.enabled_with-requires-clause-types
enabled_with-requires-clause-types c =
    let all = subst (λ h. AreAsked (composed_of h) (map (λ (v : Vec (Option Part) Global). v.items) c.self.inside.codes.items)) c.self.view_is c.self.invariant in
    let here = read c.deref.result.now c.self.inside.codes.items c.args.component c.in-Some.codes.now c.in-Some.ensures.lookup.3.0 c.in-Some.ensures.lookup.1 c.deref.ensures.value in
    let code : c.in-Some-Some.field-0.now ≡ Some c.in-Some-Some.code = search rules in
    let there = read c.deref-2.result.now c.in-Some.codes.now.items c.args.invariant c.in-Some-Some.field-0.now c.in-Some-Some.ensures.lookup.3.0 c.in-Some-Some.ensures.lookup.1 c.deref-2.ensures.value ∙ ap Some code in
    let f = its c.args.self.now c.self.inside.codes.items c.args.component c.args.invariant c.in-Some.codes.now c.in-Some-Some.code all here there c.requires.there c.requires.asked in
    (c.requires.state f.member f.member_there).table ∙ sym f.asks.types

pub enabled_with-requires-clause-slots : goal.enabled_with-requires-clause-slots
enabled_with-requires-clause-slots c =
    let all = subst (λ h. AreAsked (composed_of h) (map (λ (v : Vec (Option Part) Global). v.items) c.self.inside.codes.items)) c.self.view_is c.self.invariant in
    let here = read c.deref.result.now c.self.inside.codes.items c.args.component c.in-Some.codes.now c.in-Some.ensures.lookup.3.0 c.in-Some.ensures.lookup.1 c.deref.ensures.value in
    let code : c.in-Some-Some.field-0.now ≡ Some c.in-Some-Some.code = search rules in
    let there = read c.deref-2.result.now c.in-Some.codes.now.items c.args.invariant c.in-Some-Some.field-0.now c.in-Some-Some.ensures.lookup.3.0 c.in-Some-Some.ensures.lookup.1 c.deref-2.ensures.value ∙ ap Some code in
    let f = its c.args.self.now c.self.inside.codes.items c.args.component c.args.invariant c.in-Some.codes.now c.in-Some-Some.code all here there c.requires.there c.requires.asked in
    same_types f.member (variable_fields f.member.instance.automaton) c.args.state.now.types c.in-Some-Some.code.slots (c.requires.state f.member f.member_there).types f.asks.slots

pub enabled_with-requires-clause-arguments : goal.enabled_with-requires-clause-arguments
enabled_with-requires-clause-arguments c =
    let all = subst (λ h. AreAsked (composed_of h) (map (λ (v : Vec (Option Part) Global). v.items) c.self.inside.codes.items)) c.self.view_is c.self.invariant in
    let here = read c.deref.result.now c.self.inside.codes.items c.args.component c.in-Some.codes.now c.in-Some.ensures.lookup.3.0 c.in-Some.ensures.lookup.1 c.deref.ensures.value in
    let code : c.in-Some-Some.field-0.now ≡ Some c.in-Some-Some.code = search rules in
    let there = read c.deref-2.result.now c.in-Some.codes.now.items c.args.invariant c.in-Some-Some.field-0.now c.in-Some-Some.ensures.lookup.3.0 c.in-Some-Some.ensures.lookup.1 c.deref-2.ensures.value ∙ ap Some code in
    let f = its c.args.self.now c.self.inside.codes.items c.args.component c.args.invariant c.in-Some.codes.now c.in-Some-Some.code all here there c.requires.there c.requires.asked in
    subst (HaveTypes c.in-Some-Some.code.code.types []) (sym f.asks.args) tt

pub returns-in-Ok : goal.returns-in-Ok
returns-in-Ok c =
    let all = subst (λ h. AreAsked (composed_of h) (map (λ (v : Vec (Option Part) Global). v.items) c.self.inside.codes.items)) c.self.view_is c.self.invariant in
    let here = read c.deref.result.now c.self.inside.codes.items c.args.component c.in-Some.codes.now c.in-Some.ensures.lookup.3.0 c.in-Some.ensures.lookup.1 c.deref.ensures.value in
    let code : c.in-Some-Some.field-0.now ≡ Some c.in-Some-Some.code = search rules in
    let there = read c.deref-2.result.now c.in-Some.codes.now.items c.args.invariant c.in-Some-Some.field-0.now c.in-Some-Some.ensures.lookup.3.0 c.in-Some-Some.ensures.lookup.1 c.deref-2.ensures.value ∙ ap Some code in
    says (composed_of c.args.self.now) c.args.component c.args.invariant c.in-Some-Some.code c.args.state.now c.in-Ok.holds c.requires.state
    (asked c.args.self.now c.self.inside.codes.items c.args.component c.args.invariant c.in-Some.codes.now c.in-Some-Some.code all here there)
    (sym c.in-Ok.is ∙ c.in_ok-holds.ensures.value)

pub returns-in-Err : goal.returns-in-Err
returns-in-Err c =
    let all = subst (λ h. AreAsked (composed_of h) (map (λ (v : Vec (Option Part) Global). v.items) c.self.inside.codes.items)) c.self.view_is c.self.invariant in
    let here = read c.deref.result.now c.self.inside.codes.items c.args.component c.in-Some.codes.now c.in-Some.ensures.lookup.3.0 c.in-Some.ensures.lookup.1 c.deref.ensures.value in
    let code : c.in-Some-Some.field-0.now ≡ Some c.in-Some-Some.code = search rules in
    let there = read c.deref-2.result.now c.in-Some.codes.now.items c.args.invariant c.in-Some-Some.field-0.now c.in-Some-Some.ensures.lookup.3.0 c.in-Some-Some.ensures.lookup.1 c.deref-2.ensures.value ∙ ap Some code in
    says_no (composed_of c.args.self.now) c.args.component c.args.invariant c.in-Some-Some.code c.args.state.now c.in-Err.field-0 c.requires.state
    (asked c.args.self.now c.self.inside.codes.items c.args.component c.args.invariant c.in-Some.codes.now c.in-Some-Some.code all here there)
    (sym c.in-Err.is ∙ c.in_ok-holds.ensures.value)
