use Rattle.std.proofs.Common.{◌≡◌, map, drop}
use Rattle.std.specs.List.{list_all}
use Rattle.ioa_value.specs.Shapes.{tuple_field}
use Rattle.ioa_tree.specs.Types.{numbered}
use Rattle.ioa_tree.specs.View.{field_of}
use Rattle.ioa_tree.specs.WellFormed.{is_type}
use Rattle.ioa_rules.proofs.TypeLemmas.{made_fields}
use Rattle.ioa_rules.proofs.types.fields_of.Given as goal

abbrev pub invariant-loop-field : goal.invariant-loop-field
invariant-loop-field l =
    (made_fields l.types (map tuple_field l.made.items) (map field_of (drop l.field-index l.fields)) ≡ numbered l.types (map field_of l.fields))
    × (list_all (is_type l.types) (map field_of (drop l.field-index l.fields)) ≡ list_all (is_type l.types) (map field_of l.fields))
