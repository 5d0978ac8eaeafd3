use Rattle.std.proofs.Common.{length, ap, subst, sym, arith, string_bytes}
use Rattle.ioa_value.specs.Names.{IsName}
use Rattle.ioa_value.proofs.FieldLemmas.{legal_at}
use Rattle.ioa_object.proofs.Texts.{name_short}
use Rattle.ioa_object.proofs.writing.put_fields.Goals as goal

pub put_text-requires : goal.put_text-requires
put_text-requires c =
    let f = c.field-item.result in
    let legal : IsName (string_bytes f.name) = subst (λ x. IsName (string_bytes x.name)) (sym c.field-item.is) (legal_at c.args.fields.now c.loop-field.field-index f c.loop-field-test.true c.requires.legal) in
    omega (arith, ap length c.as_str.ensures.value, name_short (string_bytes f.name) legal)
