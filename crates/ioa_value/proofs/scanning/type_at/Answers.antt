use Rattle.std.proofs.Common.{Some, ap, sym, ◌∙◌, arith}
use Rattle.std.specs.Prelude.{slice_get}
use Rattle.ioa_value.specs.Shapes.{shape}
use Rattle.ioa_value.specs.Scanning.{row_types}
use Rattle.ioa_value.proofs.FieldLemmas.{type_there, type_past, repeated_there, repeated_past}
use Rattle.ioa_value.proofs.scanning.type_at.Goals as goal

pub returns-then-place-len : goal.returns-then-place-len
returns-then-place-len c =
    ap (λ f. Some f.ty.0) c.index.ensures
    ∙ sym (ap (λ f. slice_get (row_types (shape f)) c.args.place) c.in-Fields.is ∙ type_there c.in-Fields.fields.items c.args.place c.index.result.now (let lt = c.if-place-len.true in let long = c.len.ensures in omega (arith, lt, long)))

pub returns-else-place-len : goal.returns-else-place-len
returns-else-place-len c =
    sym (ap (λ f. slice_get (row_types (shape f)) c.args.place) c.in-Fields.is ∙ type_past c.in-Fields.fields.items c.args.place (let le = c.if-place-len.false in let long = c.len.ensures in omega (arith, le, long)))

pub returns-then-place-most : goal.returns-then-place-most
returns-then-place-most c =
    sym (ap (λ f. slice_get (row_types (shape f)) c.args.place) c.in-Sequence.is ∙ repeated_there c.in-Sequence.most c.args.place c.in-Sequence.of.0 c.if-place-most.true)

pub returns-else-place-most : goal.returns-else-place-most
returns-else-place-most c =
    sym (ap (λ f. slice_get (row_types (shape f)) c.args.place) c.in-Sequence.is ∙ repeated_past c.in-Sequence.most c.args.place c.in-Sequence.of.0 c.if-place-most.false)
