-- The declarations of types among a source's.
use Rattle.std.specs.Prelude.{◌+◌, ◌<◌, nat_le, Bool, true, ◌&&◌, [], ◌∷◌, ◌++◌, length, All, IsTrue}
use Rattle.std.specs.Option.{option_map_or}
use Rattle.ioa_value.specs.declared.limits.TheConstants.{LIMITS}
use Rattle.ioa_value.specs.Names.{IsName}
use Rattle.ioa_value.specs.Table.{Table, all_names, distinct}
use Rattle.ioa_value.specs.Widths.{shape_width, widths}
use Rattle.ioa_tree.specs.Names.{names_of_type}
use Rattle.ioa_tree.specs.Tree.{TypeTree, declared_type, automaton, composition, invariant, SourceTree}
use Rattle.ioa_tree.specs.Types.{with_type, shape_of}
use Rattle.ioa_tree.specs.WellFormed.{form_within, type_fine, declared_names}

-- each declaration of a type is fine over the types before it
abbrev pub types_fine : Table → SourceTree → Bool
types_fine types [] = true
types_fine types (declared_type d ∷ ds) = type_fine types d && types_fine (with_type types d) ds
types_fine types (automaton a ∷ ds) = types_fine types ds
types_fine types (composition c ∷ ds) = types_fine types ds
types_fine types (invariant i ∷ ds) = types_fine types ds

-- what a declaration keeps that comes after these types: there is room, it is within the limits, and its names are legal and new
pub record ComesNext (types : Table) (d : TypeTree) : Type 0 where
  pub room : length types < 2 + LIMITS.types
  pub within : IsTrue (form_within LIMITS d.form)
  pub legal : All IsName (names_of_type d)
  pub new : IsTrue (distinct (all_names types ++ declared_names (declared_type d)))

-- the type's values are not too wide
abbrev pub is_narrow : Table → TypeTree → Bool
is_narrow types d = option_map_or (λ shape. nat_le (shape_width (widths types) shape) LIMITS.words) (shape_of types d.form) true
