use Rattle.std.proofs.Common.{◌≡◌, Some, List, map, get_or, Ok, suc, sym, ap, ◌∙◌, arith}
use Rattle.std.specs.Option.{option_map}
use Rattle.std.proofs.lemmas.List.{length-map}
use Rattle.ioa_value.specs.Plain.{Val, plain, tuple, items, vals}
use Rattle.ioa_value.specs.Shapes.{tuple_field}
use Rattle.ioa_value.specs.Table.{shape_at, fields, sequence, types_of}
use Rattle.ioa_value.proofs.FirstLemmas.{field_before}
use Rattle.ioa_value.proofs.FieldLemmas.{type_there}
use Rattle.ioa_value.proofs.ItemLemmas.{item_there}
use Rattle.ioa_value.proofs.PlainLemmas.{plain-Tuple, plain-Items, vals-plain}
use Rattle.ioa_bytes.specs.Items.{Reader, payload_in, payload_shaped}
use Rattle.ioa_bytes.proofs.Payloads.{enough}
use Rattle.ioa_bytes.proofs.Readers.{fails_on, reads_err, built_err, built_ok, seen_more, amid_fails, amid_more, amid_done, list_begun, list_fails, parts_none, parts_fails, parts_more}
use Rattle.ioa_bytes.proofs.read_values.+payload.Goals as goal

pub items-returns-in_err-count : goal.items-returns-in_err-count
items-returns-in_err-count t c =
    list_fails (λ _. payload_in c.args.ty.0 c.args.types.now c.args.of.0) _ c.from_residual.result c.in_err-count.field-0.0 0 c.args.most c.args.cursor.now _ c.from_residual.ensures.1 c.in_err-count.ensures.read

pub items-loop-init : goal.items-loop-init
items-loop-init t c =
    list_begun (λ _. payload_in c.args.ty.0 c.args.types.now c.args.of.0) 0 c.args.most c.in_ok-count.count c.args.cursor.now c.count.new.self (map plain c.new-found.result.items)
    c.in_ok-count.ensures.read (ap (map plain) c.new-found.ensures.items)

pub items-returns-in_err-payload : goal.items-returns-in_err-payload
items-returns-in_err-payload t c =
    let item : List Val → Reader Val = λ _. payload_in c.args.ty.0 c.args.types.now c.args.of.0 in
    amid_fails item _ c.from_residual-in_err-payload.result c.in_err-payload.field-0.0 _ c.in_ok-count.count c.loop.counter (map plain c.loop.found.items) c.loop.cursor c.payload.new.cursor
    c.from_residual-in_err-payload.ensures.1 c.loop-test.true c.loop.invariant
    (fails_on c.in_err-payload.field-0.0 _ _ (λ f q. enough c.args.types.now c.requires.table c.args.ty.0 (suc c.args.of.0) c.args.of.0 c.requires.earlier (omega arith) c.loop.cursor ∙ q) c.in_err-payload.ensures)

pub items-loop-preserved : goal.items-loop-preserved
items-loop-preserved t c =
    let item : List Val → Reader Val = λ _. payload_in c.args.ty.0 c.args.types.now c.args.of.0 in
    amid_more item _ c.in_ok-count.count c.loop.counter (map plain c.loop.found.items) (map plain c.push.new.self.items) c.loop.cursor c.payload.new.cursor (plain c.in_ok-payload.field-0)
    c.loop-test.true c.loop.invariant
    (enough c.args.types.now c.requires.table c.args.ty.0 (suc c.args.of.0) c.args.of.0 c.requires.earlier (omega arith) c.loop.cursor ∙ c.in_ok-payload.ensures)
    (seen_more plain c.loop.found.items c.push.new.self.items c.in_ok-payload.field-0 c.in_ok-push.ensures.items)

pub items-returns : goal.items-returns
items-returns t c =
    amid_done (λ _. payload_in c.args.ty.0 c.args.types.now c.args.of.0) _ c.in_ok-count.count c.loop.counter (map plain c.loop.found.items) c.loop.cursor c.loop-test.false c.loop.invariant

pub parts-payload-requires : goal.parts-payload-requires
parts-payload-requires t c =
    let h = field_before c.args.ty.0 c.args.fields.now c.loop-i.i c.index-fields-i.result c.loop-i-test.true c.requires.earlier in
    let own = c.requires.own in (omega (arith, h), omega (arith, h))

pub parts-returns-in_err-payload : goal.parts-returns-in_err-payload
parts-returns-in_err-payload t c =
    let types = c.args.types.now in
    let fs = c.args.fields.now in
    let d = c.index-fields-i.result in
    let i = c.loop-i.i in
    let k = (get_or fs i d).ty.0 in
    let earlier = field_before c.args.ty.0 fs i d c.loop-i-test.true c.requires.earlier in
    parts_fails (payload_in c.args.ty.0 types) _ c.from_residual.result c.in_err-payload.field-0.0 _ (map plain c.loop-i.found.items) (types_of (map tuple_field fs)) i k c.loop-i.cursor c.payload.new.cursor
    c.from_residual.ensures.1 (type_there fs i d c.loop-i-test.true) c.loop-i.invariant
    (fails_on c.in_err-payload.field-0.0 _ _ (λ f q. enough types c.requires.table c.args.ty.0 (suc k) k earlier (omega arith) c.loop-i.cursor ∙ q)
    c.in_err-payload.ensures)

pub parts-loop-i-preserved : goal.parts-loop-i-preserved
parts-loop-i-preserved t c =
    let types = c.args.types.now in
    let fs = c.args.fields.now in
    let d = c.index-fields-i.result in
    let i = c.loop-i.i in
    let k = (get_or fs i d).ty.0 in
    let earlier = field_before c.args.ty.0 fs i d c.loop-i-test.true c.requires.earlier in
    parts_more (payload_in c.args.ty.0 types) _ (map plain c.loop-i.found.items) (map plain c.push.new.self.items) (types_of (map tuple_field fs)) i k c.loop-i.cursor c.payload.new.cursor
    (plain c.in_ok-payload.field-0) (type_there fs i d c.loop-i-test.true) c.loop-i.invariant
    (enough types c.requires.table c.args.ty.0 (suc k) k earlier (omega arith) c.loop-i.cursor ∙ c.in_ok-payload.ensures)
    (seen_more plain c.loop-i.found.items c.push.new.self.items c.in_ok-payload.field-0 c.in_ok-push.ensures.items)

pub parts-returns : goal.parts-returns
parts-returns t c =
    let fs = c.args.fields.now in
    c.loop-i.invariant
    ∙ parts_none (payload_in c.args.ty.0 c.args.types.now) (map plain c.loop-i.found.items) (types_of (map tuple_field fs)) c.loop-i.i c.loop-i.cursor
    (simp (length-map) (omega arith))

pub payload-returns-in_err-parts-in-Some-Fields : goal.payload-returns-in_err-parts-in-Some-Fields
unfolding payload_in
payload-returns-in_err-parts-in-Some-Fields t c =
    let types = c.args.types.now in
    let at : shape_at types c.args.ty.0 ≡ Some (fields (map tuple_field c.in-Some-Fields.fields.items)) = rw c.in-Some-Fields.field-0-is at c.in-Some-Fields.ensures.found in
    reads_err plain c.from_residual.result c.in_err-parts-in-Some-Fields.field-0.0 _ _ c.parts.new.cursor c.from_residual.ensures.1
    (λ f q. ap (λ o. payload_shaped (λ t. payload_in c.args.ty.0 types t) c.args.ty.0 o c.args.cursor.now) at ∙ built_err (λ vs. tuple c.args.ty.0 (vals vs)) _ f q)
    (rw c.deref.ensures.value at c.in_err-parts-in-Some-Fields.ensures)

pub payload-returns-in_ok-parts-in-Some-Fields : goal.payload-returns-in_ok-parts-in-Some-Fields
unfolding payload_in
payload-returns-in_ok-parts-in-Some-Fields t c =
    let types = c.args.types.now in
    let d = c.parts.new.cursor in
    let xs = c.in_ok-parts-in-Some-Fields.field-0 in
    let at : shape_at types c.args.ty.0 ≡ Some (fields (map tuple_field c.in-Some-Fields.fields.items)) = rw c.in-Some-Fields.field-0-is at c.in-Some-Fields.ensures.found in
    ap (λ o. payload_shaped (λ t. payload_in c.args.ty.0 types t) c.args.ty.0 o c.args.cursor.now) at
    ∙ built_ok (λ vs. tuple c.args.ty.0 (vals vs)) _ (map plain xs.items) d (rw c.deref.ensures.value at c.in_ok-parts-in-Some-Fields.ensures)
    ∙ ap (λ v. Ok (v, d)) (ap (tuple c.args.ty.0) (vals-plain xs.items) ∙ sym (plain-Tuple c.args.ty xs))

pub payload-returns-in_ok-items-in-Some-Sequence : goal.payload-returns-in_ok-items-in-Some-Sequence
unfolding payload_in
payload-returns-in_ok-items-in-Some-Sequence t c =
    let types = c.args.types.now in
    let d = c.items.new.cursor in
    let xs = c.in_ok-items-in-Some-Sequence.field-0 in
    let at : shape_at types c.args.ty.0 ≡ Some (sequence c.in-Some-Sequence.most c.in-Some-Sequence.of.0) = rw c.in-Some-Sequence.field-0-is at c.in-Some-Sequence.ensures.found in
    ap (λ o. payload_shaped (λ t. payload_in c.args.ty.0 types t) c.args.ty.0 o c.args.cursor.now) at
    ∙ built_ok (λ vs. items c.args.ty.0 (vals vs)) _ (map plain xs.items) d c.in_ok-items-in-Some-Sequence.ensures
    ∙ ap (λ v. Ok (v, d)) (ap (items c.args.ty.0) (vals-plain xs.items) ∙ sym (plain-Items c.args.ty xs))

pub payload-unreachable-requires : goal.payload-unreachable-requires
payload-unreachable-requires t c =
    let there = item_there c.args.types.now c.args.ty.0 c.requires in
    absurd (cc (ap (option_map (λ d. d.shape)) there.1, c.in-None.ensures.missing))
