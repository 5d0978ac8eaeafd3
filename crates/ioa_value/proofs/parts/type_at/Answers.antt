use Rattle.std.proofs.Common.{Some, sym, ap, ◌∙◌}
use Rattle.ioa_value.proofs.PartLemmas.{field_there}
use Rattle.ioa_value.proofs.parts.type_at.Goals as goal
use Rattle.ioa_value.proofs.FieldLemmas.{type_past}

pub returns-then-place-fields : goal.returns-then-place-fields
returns-then-place-fields c =
    ap (λ f. Some f.ty.0) (sym c.index-fields-place.is) ∙ sym (field_there c.args.fields.now c.args.place c.index-fields-place.result c.if-place-fields.true c.index-fields-place.is)

pub returns-else-place-fields : goal.returns-else-place-fields
returns-else-place-fields c = sym (type_past c.args.fields.now c.args.place c.if-place-fields.false)
