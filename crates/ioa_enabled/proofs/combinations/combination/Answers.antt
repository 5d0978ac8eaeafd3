use Rattle.std.proofs.Common.{◌≡◌, ℕ, ◌+◌, ◌<◌, ◌/◌, ◌%◌, ◌∙◌, List, [], ◌∷◌, ◌++◌, Some, ap, drop, get_or, length, map, sym, subst, arith}
use Rattle.std.specs.Prelude.{slice_get}
use Rattle.std.specs.Vec.{vec_len}
use Rattle.std.proofs.Math.Nat.{mod-lt}
use Rattle.std.proofs.lemmas.Bool.Decides.{nat_tests}
use Rattle.std.proofs.lemmas.List.{length-map, map-append}
use Rattle.ioa_value.specs.Plain.{Val, plain}
use Rattle.ioa_value.specs.declared.value.Value.{Value}
use Rattle.ioa_value.proofs.ItemLemmas.{at_map, drop_item}
use Rattle.ioa_parts.specs.Proposals.{values_in}
use Rattle.ioa_enabled.specs.Offers.{picked}
use Rattle.ioa_enabled.proofs.Carrying.{behind, picks_one}
use Rattle.ioa_enabled.proofs.combinations.combination.Goals as goal

pub loop-column-preserved : goal.loop-column-preserved
loop-column-preserved c =
    let vs = map plain c.loop-column.values.items in
    let column = c.column-item.result in
    let rest : List (List Val) = map values_in (drop (c.loop-column.column-index + 1) c.args.columns.now) in
    let here : map values_in (drop c.loop-column.column-index c.args.columns.now) ≡ values_in column ∷ rest =
    ap (map values_in) (drop_item c.args.columns.now c.loop-column.column-index column c.loop-column-test.true c.column-item.is) in
    let long : length (values_in column) ≡ length column.items = length-map column.items plain in
    let items : vec_len column ≡ length column.items = omega (arith, column.ok.0) in
    let some : 0 < c.len.result = grind (arith, nat_tests, c.is_empty.ensures, c.if-is_empty.false, c.len.ensures) in
    let divided : c.loop-column.left % c.len.result < c.len.result = mod-lt c.loop-column.left some in
    let within : c.loop-column.left % c.len.result < length column.items = omega (arith, items, divided, c.len.ensures) in
    let there : slice_get (values_in column) (c.loop-column.left % c.len.result) ≡ Some (plain c.index.result.now) =
    at_map plain column.items (c.loop-column.left % c.len.result) c.index.result.now within c.index.ensures in
    let divisor : c.len.result ≡ length (values_in column) = c.len.ensures ∙ items ∙ sym long in
    let other : c.len-left.result ≡ length (values_in column) = c.len-left.ensures ∙ items ∙ sym long in
    let value : slice_get (values_in column) (c.loop-column.left % length (values_in column)) ≡ Some (plain c.in_ok-value.value) =
    ap (λ n. slice_get (values_in column) (c.loop-column.left % n)) (sym divisor) ∙ there ∙ ap Some (sym c.in_ok-value.ensures) in
    let items : map plain c.push.new.self.items ≡ vs ++ plain c.in_ok-value.value ∷ [] =
    ap (map plain) c.in_ok-push.ensures.items ∙ map-append plain c.loop-column.values.items (c.in_ok-value.value ∷ []) in
    ap (λ us. behind us (picked rest (c.loop-column.left / c.len-left.result))) items
    ∙ ap (λ n. behind (vs ++ plain c.in_ok-value.value ∷ []) (picked rest (c.loop-column.left / n))) other
    ∙ sym (picks_one vs (values_in column) rest c.loop-column.left (plain c.in_ok-value.value) value)
    ∙ ap (λ vss. behind vs (picked vss c.loop-column.left)) (sym here) ∙ c.loop-column.invariant
