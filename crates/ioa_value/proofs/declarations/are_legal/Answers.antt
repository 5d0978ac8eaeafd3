use Rattle.std.proofs.Common.{All, map, sym, ap, subst, refl, ◌∙◌, arith}
use Rattle.std.proofs.lemmas.List.{take_all}
use Rattle.ioa_value.specs.Names.{IsName, is_name}
use Rattle.ioa_value.specs.Table.{field_names}
use Rattle.ioa_value.specs.Shapes.{tuple_field}
use Rattle.ioa_value.proofs.FieldLemmas.{legal_more, legal_at}
use Rattle.ioa_value.proofs.declarations.are_legal.Goals as goal

pub returns-then-not-is_name : goal.returns-then-not-is_name
returns-then-not-is_name c = (
  λ yes. absurd (cc),
  λ all. sym c.if-not-is_name.true ∙ c.is_name.ensures ∙ ap is_name c.as_bytes.ensures.value ∙ legal_at c.args.fields.now c.loop-i.i c.index-fields-i.result c.loop-i-test.true all,
)

pub loop-i-preserved : goal.loop-i-preserved
loop-i-preserved c =
    legal_more c.args.fields.now c.loop-i.i c.index-fields-i.result c.loop-i-test.true c.loop-i.invariant
    (sym (ap is_name c.as_bytes.ensures.value) ∙ sym c.is_name.ensures ∙ c.if-not-is_name.false)

pub returns : goal.returns
returns c = (
  λ yes. subst (λ l. All IsName (field_names (map tuple_field l))) (take_all c.loop-i.i c.args.fields.now (omega (arith, c.loop-i-test.false))) c.loop-i.invariant,
  λ all. refl,
)
