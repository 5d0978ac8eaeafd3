-- Names with types: the parameters among positions, and the type of a field by its name.
use Rattle.std.specs.Prelude.{ℕ, List, map, Option, None, if◌then◌else◌}
use Rattle.std.specs.Str.{bytes_eq}
use Rattle.ioa_value.specs.Actions.{Name}
use Rattle.ioa_value.specs.Table.{Table, type_named}
use Rattle.ioa_tree.specs.declared.tree.Position.{Position}
use Rattle.ioa_tree.specs.Tree.{FieldTree}
use Rattle.ioa_tree.specs.View.{position_of}
use Rattle.ioa_tree.specs.WellFormed.{position_fields}

-- a constant is none
abbrev pub parameters : List Position → List FieldTree
parameters ps = position_fields (map position_of ps)

-- the field's type, where it has this name and its type is among these
abbrev pub type_under : Table → FieldTree → Name → Option ℕ
type_under t f x = if bytes_eq f.name x then type_named t f.ty else None
