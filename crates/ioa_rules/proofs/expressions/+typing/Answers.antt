use Rattle.std.proofs.Common.{◌≡◌, ◌&&◌, refl, sym, rules, ◌∙◌}
use Rattle.std.specs.Prelude.{slice_get}
use Rattle.std.specs.Option.{is_none}
use Rattle.ioa_value.specs.Operators.{is_that}
use Rattle.ioa_value.specs.Table.{field_types}
use Rattle.ioa_tree.specs.View.{exprs_of, name_of}
use Rattle.ioa_rules.specs.KnownTypes.{whole, early}
use Rattle.ioa_rules.specs.Scopes.{context}
use Rattle.ioa_rules.proofs.TupleLemmas.{field-fails, uneven-fields, agree-turn, tuple-fails, fields-fail, made-finds}
use Rattle.ioa_rules.proofs.expressions.+typing.Goals as goal
use Rattle.ioa_rules.proofs.expressions.+typing.Goals.{fields_fine-then-is_none+then-not-is_field, fields_fine-else-is_none, fields_fine-else-is_none-via-then-is_none+else-not-is_field, fields_fine-else-is_none-via-else-is_none}

pub fields_fine-returns-in_err-ty : goal.fields_fine-returns-in_err-ty
fields_fine-returns-in_err-ty t c =
    let s = c.args.scope.now in
    field-fails (whole s.known) (early s.known) (context s) _ c.from_residual.result _ c.args.fields.now c.loop-i.i c.index-fields-i.result c.args.tuple.0
    c.loop-i-test.true c.index-fields-i.is c.in_err-ty.was c.from_residual.ensures.1 c.type_of.ensures

pub fields_fine-returns-then-fields-arity : goal.fields_fine-returns-then-fields-arity
fields_fine-returns-then-fields-arity t c =
    let s = c.args.scope.now in
    uneven-fields (whole s.known) (early s.known) (context s) c.args.fields.now c.args.tuple.0 c.loop-i.i _ (is_none c.loop-i.odd)
    c.loop-i.auto.i-end c.loop-i-test.false c.loop-i.invariant.0 c.loop-i.invariant.1 refl (λ e. c.if-fields-arity.true (e ∙ sym c.arity.ensures))

pub fields_fine-loop-i-preserved : goal.fields_fine-loop-i-preserved
fields_fine-loop-i-preserved t c =
    let s = c.args.scope.now in
    let own = field_types (whole s.known) c.args.tuple.0 in
    let more : is_none c.if-is_none.odd ≡ (is_none c.loop-i.odd && is_that (slice_get own c.loop-i.i) c.in_ok-ty.ty.0) =
    elim c.if-is_none.branch [
      | fields_fine-then-is_none+then-not-is_field w ↦ search rules
      | fields_fine-else-is_none w ↦ elim w.else-is_none.branch [
        | fields_fine-else-is_none-via-then-is_none+else-not-is_field v ↦ search rules
        | fields_fine-else-is_none-via-else-is_none v ↦ search rules
      ]
    ] in
    agree-turn (whole s.known) (early s.known) (context s) (is_none c.loop-i.odd) (is_none c.if-is_none.odd) c.args.fields.now c.loop-i.i c.index-fields-i.result c.in_ok-ty.ty.0 own _
    c.loop-i-test.true c.index-fields-i.is c.in_ok-ty.ensures more c.loop-i.invariant.1

pub made_type-returns-in_err-ty : goal.made_type-returns-in_err-ty
made_type-returns-in_err-ty t c =
    let s = c.args.scope.now in
    tuple-fails (whole s.known) (early s.known) (context s) (name_of c.args.name.now) (exprs_of c.args.fields.now) _ c.from_residual.result _
    c.in_err-ty.was c.from_residual.ensures.1 c.tuple_named.ensures

pub made_type-returns-in_err-fields_fine : goal.made_type-returns-in_err-fields_fine
made_type-returns-in_err-fields_fine t c =
    let s = c.args.scope.now in
    fields-fail (whole s.known) (early s.known) (context s) (name_of c.args.name.now) (exprs_of c.args.fields.now) _ c.from_residual-in_err-fields_fine.result _ c.in_ok-ty.ty.0
    c.in_err-fields_fine.was c.from_residual-in_err-fields_fine.ensures.1 c.in_ok-ty.ensures c.fields_fine.ensures

pub type_of-returns-in-Make : goal.type_of-returns-in-Make
type_of-returns-in-Make t c =
    let s = c.args.scope.now in
    made-finds (whole s.known) (early s.known) (context s) _ _ _ _ _ c.in-Make.is c.deref-in-Make.ensures.value c.made_type.ensures
