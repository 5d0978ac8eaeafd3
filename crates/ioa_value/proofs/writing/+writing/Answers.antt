use Rattle.std.proofs.Common.{◌++◌, codes, string_bytes, sym, ap, ◌∙◌}
use Rattle.ioa_value.specs.Plain.{plain, plain_all}
use Rattle.ioa_value.specs.Table.{type_name}
use Rattle.ioa_value.specs.Written.{written_value, written_row}
use Rattle.ioa_value.proofs.PlainLemmas.{plain-Tuple, plain-Items}
use Rattle.ioa_value.proofs.WrittenLemmas.{row_first, row_later, enclosed}
use Rattle.ioa_value.proofs.writing.+writing.Goals.{push_row-then-i-gt0+in_ok-push_str, push_row-else-i-gt0}
use Rattle.ioa_value.proofs.writing.+writing.Goals as goal

pub push_value-returns-in_ok-push_str-in-Tuple-2 : goal.push_value-returns-in_ok-push_str-in-Tuple-2
push_value-returns-in_ok-push_str-in-Tuple-2 t c =
    let types = c.args.types.now in
    let s = string_bytes c.args.text.now in
    let n = type_name types c.in-Tuple.ty.0 in
    enclosed s n (codes "(") (written_row types (plain_all c.deref.result.now)) (codes ")")
    (string_bytes c.push_type.new.text) (string_bytes c.push_str-in-Tuple.new.self) (string_bytes c.push_row.new.text) (string_bytes c.push_str-in-Tuple-2.new.self)
    c.in_ok-push_type-in-Tuple.ensures c.in_ok-push_str-in-Tuple.ensures.bytes c.in_ok-push_row-in-Tuple.ensures c.in_ok-push_str-in-Tuple-2.ensures.bytes
    ∙ ap (λ l. s ++ (n ++ (codes "(" ++ (written_row types (plain_all l) ++ codes ")")))) c.deref.ensures.value
    ∙ sym (ap (λ v. s ++ written_value types v) (ap plain c.in-Tuple.is ∙ plain-Tuple c.in-Tuple.ty c.in-Tuple.parts))

pub push_value-returns-in_ok-push_str-in-Items-2 : goal.push_value-returns-in_ok-push_str-in-Items-2
push_value-returns-in_ok-push_str-in-Items-2 t c =
    let types = c.args.types.now in
    let s = string_bytes c.args.text.now in
    let n = type_name types c.in-Items.ty.0 in
    enclosed s n (codes "[") (written_row types (plain_all c.deref-in-Items.result.now)) (codes "]")
    (string_bytes c.push_type-in-Items.new.text) (string_bytes c.push_str-in-Items.new.self) (string_bytes c.push_row-in-Items.new.text) (string_bytes c.push_str-in-Items-2.new.self)
    c.in_ok-push_type-in-Items.ensures c.in_ok-push_str-in-Items.ensures.bytes c.in_ok-push_row-in-Items.ensures c.in_ok-push_str-in-Items-2.ensures.bytes
    ∙ ap (λ l. s ++ (n ++ (codes "[" ++ (written_row types (plain_all l) ++ codes "]")))) c.deref-in-Items.ensures.value
    ∙ sym (ap (λ v. s ++ written_value types v) (ap plain c.in-Items.is ∙ plain-Items c.in-Items.ty c.in-Items.items))

pub push_row-loop-i-preserved : goal.push_row-loop-i-preserved
push_row-loop-i-preserved t c =
    elim c.if-i-gt0.branch [
      | push_row-then-i-gt0+in_ok-push_str w ↦ row_later c.args.types.now c.args.values.now c.loop-i.i c.index-values-i.result (string_bytes c.args.text.now) (string_bytes c.loop-i.text) (string_bytes c.if-i-gt0.text) (string_bytes c.push_value.new.text) c.loop-i-test.true c.index-values-i.is w.if-i-gt0.true c.loop-i.invariant (ap string_bytes w.text-is ∙ w.in_ok-push_str.ensures.bytes) c.in_ok-push_value.ensures
      | push_row-else-i-gt0 w ↦ row_first c.args.types.now c.args.values.now c.loop-i.i c.index-values-i.result (string_bytes c.args.text.now) (string_bytes c.loop-i.text) (string_bytes c.push_value.new.text) c.loop-i-test.true c.index-values-i.is w.if-i-gt0.false c.loop-i.invariant (c.in_ok-push_value.ensures ∙ ap (λ x. string_bytes x ++ written_value c.args.types.now (plain c.index-values-i.result)) w.text-is)
    ]
