use Rattle.std.proofs.Common.{◌≡◌, Some, map, sym, ap, ◌∙◌, arith}
use Rattle.ioa_value.specs.Plain.{plain_all, tuple, items}
use Rattle.ioa_value.specs.Table.{shape_at, fields, sequence, types_of}
use Rattle.ioa_value.specs.Shapes.{tuple_field}
use Rattle.ioa_value.specs.Typing.{first_of, first_in, first_shaped, firsts as values_of}
use Rattle.ioa_value.proofs.PlainLemmas.{plain-Tuple, plain-Items}
use Rattle.ioa_value.proofs.FirstLemmas.{first_tuple, field_before, firsts_more}
use Rattle.ioa_value.proofs.initial.+first.Goals as goal

pub first-returns-in_ok-firsts-in-Some-Fields : goal.first-returns-in_ok-firsts-in-Some-Fields
first-returns-in_ok-firsts-in-Some-Fields t c =
    let fs = map tuple_field c.in-Some-Fields.fields.items in
    let types = c.args.types.now in
    let at : shape_at types c.args.ty.0 ≡ Some (fields fs) = rw c.in-Some-Fields.field-0-is at c.in-Some-Fields.ensures.found in
    let earlier = rw c.in-Some-Fields.field-0-is at c.in-Some-Fields.ensures.stands in
    record {
      value = plain-Tuple c.args.ty c.in_ok-firsts-in-Some-Fields.field-0
          ∙ ap (tuple c.args.ty.0) (c.in_ok-firsts-in-Some-Fields.ensures ∙ ap (λ l. values_of (first_of types) (types_of (map tuple_field l))) c.deref.ensures.value)
          ∙ first_tuple types c.form.ensures.types c.args.ty.0 fs at earlier.2;
    }

pub first-returns-in-Some-Sequence : goal.first-returns-in-Some-Sequence
first-returns-in-Some-Sequence t c =
    let types = c.args.types.now in
    let at : shape_at types c.args.ty.0 ≡ Some (sequence c.in-Some-Sequence.field-0-0 c.in-Some-Sequence.field-0-1.0) = rw c.in-Some-Sequence.field-0-is at c.in-Some-Sequence.ensures.found in
    record {
      value = plain-Items c.args.ty c.new.result
          ∙ ap (λ l. items c.args.ty.0 (plain_all l)) c.new.ensures.items
          ∙ sym (ap (first_shaped (λ k. first_in c.args.ty.0 types k) c.args.ty.0) at);
    }

pub firsts-first-requires : goal.firsts-first-requires
firsts-first-requires t c =
    let h = field_before c.args.ty.0 c.args.fields.now c.loop-i.i c.index-fields-i.result c.loop-i-test.true c.requires.earlier in
    let own = c.requires.own in (omega (arith, h), omega (arith, h))

pub firsts-loop-i-preserved : goal.firsts-loop-i-preserved
firsts-loop-i-preserved t c =
    firsts_more (first_of c.args.types.now) c.args.fields.now c.loop-i.i c.index-fields-i.result c.loop-i.values.items c.push.new.self.items c.in_ok-first.field-0 c.loop-i-test.true c.loop-i.invariant c.in_ok-push.ensures.items c.in_ok-first.ensures.value
