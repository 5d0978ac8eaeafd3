use Rattle.std.proofs.Common.{◌≡◌, ◌<◌, IsTrue, IfSome, [], length, map, get_or, Option, None, Vec, sym, ap, subst, ◌∙◌, arith}
use Rattle.std.specs.Prelude.{slice_index_or}
use Rattle.std.specs.Global.{Global}
use Rattle.std.specs.List.{list_all}
use Rattle.std.specs.Str.{bytes_eq}
use Rattle.ioa_value.proofs.ItemLemmas.{at_map}
use Rattle.ioa_code.specs.Valid.{Part}
use Rattle.ioa_tree.specs.declared.tree.Invariant.{Invariant}
use Rattle.ioa_tree.specs.View.{automaton_of, expr_of, invariant_of, variable_of}
use Rattle.ioa_tree.specs.WellFormed.{has_ty, held, is_type}
use Rattle.ioa_compose.specs.Held.{composed_of, member_of}
use Rattle.ioa_compose.proofs.MemberLemmas.{declared_at, fine_at}
use Rattle.ioa_compile.specs.Asking.{Asks}
use Rattle.ioa_compile.proofs.Asking.{asked_more, asks_these, kept}
use Rattle.ioa_compile.proofs.Fine.{variables_known}
use Rattle.ioa_compile.proofs.asked.component_codes.Goals as goal
use Rattle.ioa_compile.proofs.asked.component_codes.Goals.{then-is_about+in_ok-condition_code+in_ok-push, else-is_about+in_ok-push-2}

pub variable_types-requires : goal.variable_types-requires
variable_types-requires c =
    let xs = c.args.composition.now.members in
    let i = c.args.component in
    let x = c.index-members-component.result in
    let e : x ≡ get_or xs i x = c.index-members-component.is ∙ ap (λ l. slice_index_or l i x) c.members.ensures.value in
    subst (λ l. IsTrue (list_all (is_type x.types) (map (λ v. v.field) (map variable_of l)))) (sym c.deref.ensures.value)
    (variables_known (member_of x) (fine_at xs i x c.members.ensures.sound.members c.requires e))

pub condition_code-requires-clause-fine : goal.condition_code-requires-clause-fine
condition_code-requires-clause-fine c =
    let xs = c.args.composition.now.members in
    let i = c.args.component in
    let x = c.index-members-component.result in
    fine_at xs i x c.members.ensures.sound.members c.requires (c.index-members-component.is ∙ ap (λ l. slice_index_or l i x) c.members.ensures.value)

pub condition_code-requires-clause-table : goal.condition_code-requires-clause-table
condition_code-requires-clause-table c =
    let xs = c.args.composition.now.members in
    let i = c.args.component in
    let x = c.index-members-component.result in
    declared_at _ xs i x c.members.ensures.sound.types c.members.ensures.sound.over c.requires (c.index-members-component.is ∙ ap (λ l. slice_index_or l i x) c.members.ensures.value)

pub condition_code-requires-clause-typed : goal.condition_code-requires-clause-typed
condition_code-requires-clause-typed c =
    let xs = c.args.composition.now.members in
    let vs = c.args.composition.now.invariants in
    let i = c.args.component in
    let k = c.loop-number.number in
    let x = c.index-members-component.result in
    let v = c.index-invariants-number.result in
    let many : length c.invariants-number-end.result.now ≡ length vs = ap length c.invariants-number-end.ensures.value in
    let few : k < length vs = omega (arith, many, c.loop-number-test.true) in
    let here = at_map member_of xs i x c.requires (c.index-members-component.is ∙ ap (λ l. slice_index_or l i x) c.members.ensures.value) in
    let there = at_map invariant_of vs k v few (c.index-invariants-number.is ∙ ap (λ l. slice_index_or l k v) c.invariants.ensures.value) in
    let about : IsTrue (bytes_eq (invariant_of v).automaton (member_of x).instance.automaton.name) = sym (c.is_about.ensures (member_of x) (invariant_of v) here there) ∙ c.if-is_about.true in
    subst (λ (w : Invariant). IsTrue (has_ty x.types x.types (held x.types x.types [] (automaton_of x.automaton)) (expr_of w.condition) 0)) c.index-invariants-number.is
    (c.members.ensures.sound.invariants i k (member_of x) (invariant_of v) here there about)

pub loop-number-preserved : goal.loop-number-preserved
loop-number-preserved c =
    let composed = composed_of c.args.composition.now in
    let before = c.loop-number.codes.items in
    let i = c.args.component in
    let k = c.loop-number.number in
    let xs = c.args.composition.now.members in
    let vs = c.args.composition.now.invariants in
    let x = c.index-members-component.result in
    let many : length c.invariants-number-end.result.now ≡ length vs = ap length c.invariants-number-end.ensures.value in
    let few : k < length vs = omega (arith, many, c.loop-number-test.true) in
    let here = at_map member_of xs i x c.requires (c.index-members-component.is ∙ ap (λ l. slice_index_or l i x) c.members.ensures.value) in
    elim c.if-is_about.branch [
      | then-is_about+in_ok-condition_code+in_ok-push w ↦
          let v = w.index-invariants-number.result in
          let there = at_map invariant_of vs k v few (w.index-invariants-number.is ∙ ap (λ l. slice_index_or l k v) w.invariants.ensures.value) in
          let items = ap (λ (v : Vec (Option Part) Global). v.items) w.codes-is ∙ w.in_ok-push.ensures.items in
          kept composed i k before c.if-is_about.codes.items w.in_ok-condition_code.field-0 items c.loop-number.invariant.1
          (asked_more composed i before w.in_ok-condition_code.field-0 c.loop-number.invariant.0 (λ part is m u at_m at_u.
          asks_these composed i k (length before) (member_of x) (invariant_of v) here there (sym c.loop-number.invariant.1) part w.in_ok-condition_code.field-0 is
          (subst (λ (z : Invariant). IfSome w.in_ok-condition_code.field-0 (λ p. Asks (member_of x) (expr_of z.condition) p)) (sym w.index-invariants-number.is) w.in_ok-condition_code.ensures) m u at_m at_u))
      | else-is_about+in_ok-push-2 w ↦
          let items = ap (λ (v : Vec (Option Part) Global). v.items) w.codes-is ∙ w.in_ok-push-2.ensures.items in
          kept composed i k before c.if-is_about.codes.items None items c.loop-number.invariant.1
          (asked_more composed i before None c.loop-number.invariant.0 (λ part is m u at_m at_u. absurd (cc)))
    ]
