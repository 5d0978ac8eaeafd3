use Rattle.std.proofs.Common.{◌≡◌, ◌++◌, length, ap, ◌∙◌, arith, rules, refl}
use Rattle.std.proofs.lemmas.List.{append_assoc}
use Rattle.std.proofs.lemmas.Result.{on_ok_weaker}
use Rattle.ioa_value.specs.declared.value.Value.TheViews.{the_lemmas}
use Rattle.ioa_value.specs.Plain.{plain_all}
use Rattle.ioa_object.specs.Spelling.{short, payloads}
use Rattle.ioa_object.proofs.Written.{tuple_typed, tuple_spelled, items_typed, items_spelled, own_item, row_spelled}
use Rattle.ioa_object.proofs.writing.+payload.Goals as goal

pub put_payload-put_payloads-requires : goal.put_payload-put_payloads-requires
put_payload-put_payloads-requires t c =
    let types = c.requires.0 in
    (search (rules, the_lemmas), (types, c.requires.1, tuple_typed c.args.value.now c.in-Tuple.field-0 c.in-Tuple.parts c.deref.result.now c.in-Tuple.is c.deref.ensures.value types c.requires.2))

pub put_payload-put_count-requires : goal.put_payload-put_count-requires
put_payload-put_count-requires t c =
    let items = c.in-Items.items in
    let typed = items_typed c.args.value.now c.in-Items.field-0 items items.items c.in-Items.is refl c.requires.0 c.requires.1 c.requires.2 in
    omega (arith, c.len.ensures, items.ok.0, typed.1)

pub put_payload-put_payloads-requires-in-Items : goal.put_payload-put_payloads-requires-in-Items
put_payload-put_payloads-requires-in-Items t c =
    let types = c.requires.0 in
    let typed = items_typed c.args.value.now c.in-Items.field-0 c.in-Items.items c.deref-in-Items.result.now c.in-Items.is c.deref-in-Items.ensures.value types c.requires.1 c.requires.2 in
    (search (rules, the_lemmas), (types, c.requires.1, typed.0))

pub put_payload-returns-in-Tuple : goal.put_payload-returns-in-Tuple
put_payload-returns-in-Tuple t c =
    let spelled = tuple_spelled c.args.value.now c.in-Tuple.field-0 c.in-Tuple.parts c.deref.result.now c.in-Tuple.is c.deref.ensures.value in
    on_ok_weaker c.put_payloads.result (λ e. e ∙ ap (λ l. c.args.out.now.items ++ l) spelled) c.put_payloads.ensures

pub put_payload-returns-in_ok-put_count-in-Items : goal.put_payload-returns-in_ok-put_count-in-Items
put_payload-returns-in_ok-put_count-in-Items t c =
    let old = c.args.out.now.items in
    let items = c.in-Items.items in
    let xs = c.deref-in-Items.result.now in
    let long : c.len.result ≡ length xs = omega (arith, c.len.ensures, items.ok.0, ap length c.deref-in-Items.ensures.value) in
    let spelled = items_spelled c.args.value.now c.in-Items.field-0 items xs c.in-Items.is c.deref-in-Items.ensures.value in
    let first : c.put_count.new.out.items ≡ old ++ short (length xs) = c.in_ok-put_count-in-Items.ensures ∙ ap (λ n. old ++ short n) long in
    on_ok_weaker c.put_payloads-in-Items.result
    (λ e. e ∙ ap (λ l. l ++ payloads (plain_all xs)) first ∙ append_assoc old (short (length xs)) (payloads (plain_all xs)) ∙ ap (λ l. old ++ l) spelled)
    c.put_payloads-in-Items.ensures

pub put_payloads-put_payload-requires : goal.put_payloads-put_payload-requires
put_payloads-put_payload-requires t c =
    let types = c.requires.0 in
    (search (rules, the_lemmas), (types, c.requires.1, own_item types c.args.values.now c.loop-value.value-index c.value-item.result c.loop-value-test.true c.value-item.is c.requires.2))

pub put_payloads-returns : goal.put_payloads-returns
put_payloads-returns t c =
    row_spelled c.args.out.now.items c.loop-value.out.items c.args.values.now c.loop-value.value-index c.loop-value-test.false c.loop-value.invariant
