use Rattle.std.proofs.Common.{◌≡◌, true, false, Some, length, refl, sym, ap, ◌∙◌, arith}
use Rattle.std.specs.Prelude.{nat_le}
use Rattle.std.proofs.lemmas.List.{length-map}
use Rattle.std.proofs.lemmas.Bool.Decides.{nat_tests}
use Rattle.ioa_value.specs.Plain.{plain, tuple, items, plain_all, count}
use Rattle.ioa_value.specs.Table.{sequence, shape_at}
use Rattle.ioa_value.proofs.PlainLemmas.{plain-Tuple, plain-Items, count-plain_all}
use Rattle.ioa_value.proofs.TypingLemmas.{tuple_typed, items_typed, uneven_parts}
use Rattle.ioa_value.proofs.typing.+typing.Goals as goal

pub has_type-returns-then-ty-own-2 : goal.has_type-returns-then-ty-own-2
has_type-returns-then-ty-own-2 t c =
    tuple_typed c.args.types.now (plain c.args.value.now) c.args.ty.0 c.in-Tuple.own.0 (plain_all c.deref.result.now) _
    (ap plain c.in-Tuple.is ∙ plain-Tuple c.in-Tuple.own c.in-Tuple.parts ∙ ap (λ l. tuple c.in-Tuple.own.0 (plain_all l)) (sym c.deref.ensures.value))
    c.if-ty-own-2.true c.is_tuple_of.ensures

pub has_type-returns-then-ty-own-3 : goal.has_type-returns-then-ty-own-3
has_type-returns-then-ty-own-3 t c =
    items_typed c.args.types.now (plain c.args.value.now) c.args.ty.0 c.in-Items.own.0 (plain_all c.deref-then-ty-own-3.result.now) _
    (ap plain c.in-Items.is ∙ plain-Items c.in-Items.own c.in-Items.items ∙ ap (λ l. items c.in-Items.own.0 (plain_all l)) (sym c.deref-then-ty-own-3.ensures.value))
    c.if-ty-own-3.true c.is_sequence_of.ensures

pub is_sequence_of-returns-then-items-most : goal.is_sequence_of-returns-then-items-most
is_sequence_of-returns-then-items-most t c =
    let vs = plain_all c.args.items.now in
    let at : shape_at c.args.types.now c.args.ty.0 ≡ Some (sequence c.in-Some-Sequence.most c.in-Some-Sequence.of.0) = rw c.in-Some-Sequence.field-0-is at c.in-Some-Sequence.ensures.found in
    let few : nat_le (count vs) c.in-Some-Sequence.most ≡ true = (let test = c.if-items-most.true in let long = count-plain_all c.args.items.now in grind (arith, nat_tests)) in
    rw at (rw few c.has_items.ensures)

pub is_sequence_of-returns-else-items-most : goal.is_sequence_of-returns-else-items-most
is_sequence_of-returns-else-items-most t c =
    let vs = plain_all c.args.items.now in
    let at : shape_at c.args.types.now c.args.ty.0 ≡ Some (sequence c.in-Some-Sequence.most c.in-Some-Sequence.of.0) = rw c.in-Some-Sequence.field-0-is at c.in-Some-Sequence.ensures.found in
    let many : nat_le (count vs) c.in-Some-Sequence.most ≡ false = (let test = c.if-items-most.false in let long = count-plain_all c.args.items.now in grind (arith, nat_tests)) in
    let known : nat_le (length c.args.items.now) c.in-Some-Sequence.most ≡ false = (let test = c.if-items-most.false in grind (arith, nat_tests)) in
    rw known (rw at (rw many refl))

pub has_parts-returns-then-values-fields : goal.has_parts-returns-then-values-fields
has_parts-returns-then-values-fields t c =
    uneven_parts c.args.types.now c.args.values.now _ (λ e. c.if-values-fields.true (e ∙ simp length-map))
