-- Declarations without the memory that holds them.
use Rattle.std.specs.Prelude.{◌≡◌, ℕ, List, String, map}
use Rattle.std.specs.BTreeMap.{BTreeMap, get_by_text}
use Rattle.std.specs.Global.{Global}
use Rattle.std.specs.Option.{option_map, option_or}
use Rattle.std.specs.String.{string_bytes}
use Rattle.ioa_value.specs.declared.value.Ty.{Ty}
use Rattle.ioa_value.specs.declared.types.Field.{Field}
use Rattle.ioa_value.specs.declared.types.Form.{Form}
use Rattle.ioa_value.specs.declared.types.Form.TheVariants.{Truths, Numbers, Names, Fields, Sequence}
use Rattle.ioa_value.specs.declared.types.Declared.{Declared}
use Rattle.ioa_value.specs.Table.{TupleField, Shape, truths, numbers, names, fields, sequence, Declaration, Table, type_named, place_from, constant_named}
use Rattle.ioa_value.specs.Plain.{number}

-- a field's name, by its bytes, and its type's number
abbrev pub tuple_field : Field → TupleField
tuple_field f = record { name = string_bytes f.name; ty = f.ty.0 }

-- what a type is, by the names' bytes and the types' numbers
abbrev pub shape : Form → Shape
shape Truths = truths
shape Numbers = numbers
shape (Names ns) = names (map string_bytes ns.items)
shape (Fields fs) = fields (map tuple_field fs.items)
shape (Sequence most of) = sequence most of.0

-- a type's name, by its bytes, and what it is
abbrev pub declaration : Declared → Declaration
declaration d = record { name = string_bytes d.name; shape = shape d.form }

-- an enumeration's number, and a name's place in it
abbrev pub place : Ty × ℕ → ℕ × ℕ
place p = (p.0.0, p.1)

-- the map finds types by name
abbrev pub FindsTypes : BTreeMap (String Global) Ty → Table → Type 0
FindsTypes m types = (x : List ℕ) → option_map number (get_by_text m x) ≡ type_named types x

-- the map finds names of enumerations
abbrev pub FindsConstants : BTreeMap (String Global) (Ty × ℕ) → Table → Type 0
FindsConstants m types = (x : List ℕ) → option_map place (get_by_text m x) ≡ constant_named types x

-- the new map finds what the old one found, and else these names as those of the enumeration
abbrev pub FindsMore : BTreeMap (String Global) (Ty × ℕ) → BTreeMap (String Global) (Ty × ℕ) → ℕ → List (List ℕ) → Type 0
FindsMore old new ty ns =
    (x : List ℕ) → option_map place (get_by_text new x) ≡ option_or (option_map place (get_by_text old x)) (option_map (λ n. (ty, n)) (place_from 0 ns x))
