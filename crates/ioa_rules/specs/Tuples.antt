-- Tuples of expressions: the type that is named, and the types of the fields.
use Rattle.std.specs.Prelude.{ℕ, Bool, true, false, Option, Some, None, is_some, option_and_then, if◌then◌else◌}
use Rattle.std.specs.Option.{option_map_or}
use Rattle.ioa_value.specs.Actions.{Name}
use Rattle.ioa_value.specs.Operators.{are_these}
use Rattle.ioa_value.specs.Table.{Table, shape_at, type_named, field_types}
use Rattle.ioa_value.specs.Typing.{of_fields}
use Rattle.ioa_tree.specs.Tree.{Exprs}
use Rattle.ioa_tree.specs.WellFormed.{Context, types_of_all}
use Rattle.ioa_rules.specs.Codes.{unknown_name, type_mismatch}
use Rattle.ioa_rules.specs.Reasons.{Reasons, ◌or◌, broken, has_fields, in_expressions}

-- the type is of tuples
abbrev pub is_tuple : Table → ℕ → Bool
is_tuple t ty = of_fields (shape_at t ty) (λ tys. true)

-- the number of the tuple type of this name, where it is declared before
abbrev pub tuple_named : Table → Table → Name → Option ℕ
tuple_named t early x = option_and_then (λ ty. if is_tuple t ty then Some ty else None) (type_named early x)

abbrev pub in_tuple_name : Table → Table → Name → Reasons
in_tuple_name t early x = broken unknown_name (is_some (type_named early x))
    or broken type_mismatch (option_map_or (has_fields t) (type_named early x) true)

module _ (t early : Table) (c : Context) (es : Exprs) (ty : ℕ) where
  -- the expressions have types, and they are those of a tuple's fields
  abbrev pub are_fields : Bool
  are_fields = option_map_or (λ tys. are_these tys (field_types t ty)) (types_of_all t early c es) false

  abbrev pub in_fields_made : Reasons
  in_fields_made = in_expressions t early c es
      or broken type_mismatch (option_map_or (λ tys. are_these tys (field_types t ty)) (types_of_all t early c es) true)
