use Rattle.std.proofs.Common.{Ok, map, sym, ap, ◌∙◌}
use Rattle.ioa_value.specs.Shapes.{tuple_field}
use Rattle.ioa_value.specs.Table.{contains, field_names}
use Rattle.ioa_object.specs.Reading.{field_at}
use Rattle.ioa_bytes.specs.Items.{type_at}
use Rattle.ioa_object.proofs.Names.{named_alike}
use Rattle.ioa_bytes.proofs.Readers.{reads_err, then_err, then_ok, name_free, name_taken}
use Rattle.ioa_object.proofs.types.field.Goals as goal

pub returns-then-is_named : goal.returns-then-is_named
unfolding field_at
returns-then-is_named c =
    then_err _ _ _ (name_taken (contains (field_names (map tuple_field c.args.before.now))) c.args.cursor.now c.in_ok-name.name.text.now c.in_ok-name.name.at c.name.new.self c.in_ok-name.ensures.read
    (named_alike tuple_field (λ f. f.name) c.args.before.now _ _ _ c.is_named.ensures c.if-is_named.true))

pub returns-in_err-ty : goal.returns-in_err-ty
unfolding field_at
returns-in_err-ty c =
    let free = name_free (contains (field_names (map tuple_field c.args.before.now))) c.args.cursor.now c.in_ok-name.name.text.now c.in_ok-name.name.at c.name.new.self c.in_ok-name.ensures.read
    (named_alike tuple_field (λ f. f.name) c.args.before.now _ _ _ c.is_named.ensures c.if-is_named.false) in
    reads_err tuple_field c.from_residual-in_err-ty.result c.in_err-ty.field-0.0 (type_at c.args.count c.name.new.self) _ c.ty.new.self c.from_residual-in_err-ty.ensures.1
    (λ f q. then_ok _ _ _ free ∙ then_err _ _ f q) c.in_err-ty.ensures.read

pub returns : goal.returns
unfolding field_at
returns c =
    let free = name_free (contains (field_names (map tuple_field c.args.before.now))) c.args.cursor.now c.in_ok-name.name.text.now c.in_ok-name.name.at c.name.new.self c.in_ok-name.ensures.read
    (named_alike tuple_field (λ f. f.name) c.args.before.now _ _ _ c.is_named.ensures c.if-is_named.false) in
    then_ok _ _ _ free ∙ then_ok _ _ _ c.in_ok-ty.ensures.read ∙ ap (λ x. Ok (record { name = x; ty = c.in_ok-ty.ty.0 }, c.ty.new.self)) (sym c.in_ok-from_str.ensures.ok)
