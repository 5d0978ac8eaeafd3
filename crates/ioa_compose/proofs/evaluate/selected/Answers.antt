use Rattle.std.proofs.Common.{◌≡◌, ◌∷◌, [], Some, sym, ap, ◌∙◌}
use Rattle.std.specs.Option.{option_map_or}
use Rattle.ioa_value.specs.declared.operator.Op.TheVariants.{Field}
use Rattle.ioa_value.specs.Operators.{nothing, operate}
use Rattle.ioa_value.specs.Table.{field_place}
use Rattle.ioa_value.specs.Typing.{own}
use Rattle.ioa_tree.specs.View.{name_of}
use Rattle.ioa_compose.specs.Givens.{given}
use Rattle.ioa_compose.proofs.evaluate.selected.Goals as goal

pub returns-in-Lent : goal.returns-in-Lent
returns-in-Lent c =
    let types = c.args.types.now in
    let x = name_of c.args.name.now in
    let v = given c.args.tuple in
    let found : field_place types (own v) x ≡ Some c.place_in-place.result = ap (λ v. field_place types (own v) x) (sym c.value.ensures) ∙ c.place_in-place.ensures in
    c.field.ensures types ∙ ap (λ v. operate types (Field c.place_in-place.result) (v ∷ [])) (sym (ap given c.in-Lent.is))
    ∙ sym (ap (λ o. option_map_or (λ j. operate types (Field j) (v ∷ [])) o nothing) found)
