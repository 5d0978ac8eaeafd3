-- The declared types: a list, in which a type's number is its place.
use Rattle.std.specs.Prelude.{◌≡◌, ℕ, ◌+◌, ◌<◌, ◌≤◌, Bool, true, not, ◌&&◌, IsTrue, List, [], ◌∷◌, length, map, All, Option, Some, None, if◌then◌else◌, slice_get, get_or, codes}
use Rattle.std.specs.List.{list_any, list_all, flat_map}
use Rattle.std.specs.Option.{option_map, option_map_or, option_or}
use Rattle.std.specs.Str.{bytes_eq}
use Rattle.ioa_value.specs.declared.limits.TheConstants.{LIMITS}
use Rattle.ioa_value.specs.Actions.{Name}
use Rattle.ioa_value.specs.Names.{IsName}
pub use Rattle.ioa_value.specs.Forms.{TupleField, Shape, truths, numbers, names, fields, sequence, Declaration}
use Rattle.ioa_value.specs.Widths.{shape_width, widths}

-- the types by number
abbrev pub Table : Type 0
Table = List Declaration

-- the truth values, type 0
abbrev pub bool : Declaration
bool = record { name = codes "Bool"; shape = truths }

-- the whole numbers of 64 bits, type 1
abbrev pub int : Declaration
int = record { name = codes "Int"; shape = numbers }

-- the types that are there without a declaration
abbrev pub basic : Table
basic = bool ∷ int ∷ []

-- what the type of this number is
abbrev pub shape_at : Table → ℕ → Option Shape
shape_at types ty = option_map (λ d. d.shape) (slice_get types ty)

-- the types of a tuple's fields
abbrev pub types_of : List TupleField → List ℕ
types_of fs = map (λ f. f.ty) fs

-- of a sequence's shape the type of its items
abbrev pub item_of : Option Shape → Option ℕ
item_of (Some (sequence most of)) = Some of
item_of (Some truths) = None
item_of (Some numbers) = None
item_of (Some (names ns)) = None
item_of (Some (fields fs)) = None
item_of None = None

-- the type of the items of a sequence type
abbrev pub item_type : Table → ℕ → Option ℕ
item_type types ty = item_of (shape_at types ty)

-- how many items there may be, of a sequence's shape
abbrev pub most_of : Option Shape → ℕ
most_of (Some (sequence most of)) = most
most_of (Some truths) = 0
most_of (Some numbers) = 0
most_of (Some (names ns)) = 0
most_of (Some (fields fs)) = 0
most_of None = 0

-- how many items a sequence of the type may have; 0 where it is no sequence type
abbrev pub capacity : Table → ℕ → ℕ
capacity types ty = most_of (shape_at types ty)

-- of a tuple's shape its fields
abbrev pub fields_of : Option Shape → List TupleField
fields_of (Some (fields fs)) = fs
fields_of (Some truths) = []
fields_of (Some numbers) = []
fields_of (Some (names ns)) = []
fields_of (Some (sequence most of)) = []
fields_of None = []

-- the types of the fields of a tuple type, in order; none where it is no tuple type
abbrev pub field_types : Table → ℕ → List ℕ
field_types types ty = types_of (fields_of (shape_at types ty))

-- the name of the type of this number; of a number that is no type's it is empty
abbrev pub type_name : Table → ℕ → Name
type_name types ty = option_map_or (λ d. d.name) (slice_get types ty) []

-- ---- names

abbrev pub contains : List Name → Name → Bool
contains ns x = list_any (λ n. bytes_eq n x) ns

-- no name stands twice
abbrev pub distinct : List Name → Bool
distinct [] = true
distinct (n ∷ ns) = not (contains ns n) && distinct ns

-- no name of the first list is one of the second
abbrev pub apart : List Name → List Name → Bool
apart ns ms = list_all (λ n. not (contains ms n)) ns

-- the place of a name in a list, counted on from a number
abbrev pub place_from : ℕ → List Name → Name → Option ℕ
place_from i [] x = None
place_from i (n ∷ ns) x = if bytes_eq n x then Some i else place_from (i + 1) ns x

-- the number of the first type of this name
abbrev pub type_named : Table → Name → Option ℕ
type_named types x = place_from 0 (map (λ d. d.name) types) x

-- the place of the field of this name in a tuple type
abbrev pub field_place : Table → ℕ → Name → Option ℕ
field_place types ty x = place_from 0 (map (λ f. f.name) (fields_of (shape_at types ty))) x

-- the names of an enumeration
abbrev pub names_in : Shape → List Name
names_in truths = []
names_in numbers = []
names_in (names ns) = ns
names_in (fields fs) = []
names_in (sequence most of) = []

-- the name at this place of an enumeration; where there is none it is empty
abbrev pub constant_name : Table → ℕ → ℕ → Name
constant_name types ty n = get_or (option_map_or names_in (shape_at types ty) []) n []

-- the first name of an enumeration that is this one, in types counted on from a number: the type's number, and the name's place
abbrev pub constant_from : ℕ → Table → Name → Option (ℕ × ℕ)
constant_from ty [] x = None
constant_from ty (d ∷ ds) x = option_or (option_map (λ n. (ty, n)) (place_from 0 (names_in d.shape) x)) (constant_from (ty + 1) ds x)

-- the number of an enumeration, and the place in it, of the first name that is this one
abbrev pub constant_named : Table → Name → Option (ℕ × ℕ)
constant_named types x = constant_from 0 types x

-- the names that a declaration gives: its own, and those of an enumeration
abbrev pub given_names : Declaration → List Name
given_names d = d.name ∷ names_in d.shape

-- the names that the declarations give
abbrev pub all_names : Table → List Name
all_names types = flat_map given_names types

-- ---- tables

-- the names of a tuple's fields
abbrev pub field_names : List TupleField → List Name
field_names fs = map (λ f. f.name) fs

-- a type may be this as number ty: it names earlier types only, and has a first value; a tuple's fields have legal names that differ
abbrev pub MayStand : ℕ → Shape → Type 0
MayStand ty truths = ty ≡ 0
MayStand ty numbers = ty ≡ 1
MayStand ty (names ns) = (0 < length ns) × (length ns ≤ LIMITS.names)
MayStand ty (fields fs) =
    (0 < length fs) × (length fs ≤ LIMITS.fields) × All (λ t. t < ty) (types_of fs) × All IsName (field_names fs)
    × IsTrue (distinct (field_names fs))
MayStand ty (sequence most of) = (0 < most) × (most ≤ LIMITS.capacity) × (of < ty)

-- one more type may be this: there is room among the declared ones, it may stand there, its names are legal and new, and its values
-- are not too wide
pub record MayFollow (types : Table) (d : Declaration) : Type 0 where
  pub room : length types < 2 + LIMITS.types
  pub stands : MayStand (length types) d.shape
  pub legal : All IsName (given_names d)
  pub new : IsTrue (distinct (given_names d) && apart (given_names d) (all_names types))
  pub narrow : shape_width (widths types) d.shape ≤ LIMITS.words

-- Bool and Int come first, each type may stand where it does, no more are declared than may be, the names that types give are legal and
-- differ, and no type's values are too wide
pub record AreTypes (types : Table) : Type 0 where
  pub first : slice_get types 0 ≡ Some bool
  pub second : slice_get types 1 ≡ Some int
  pub each : (ty : ℕ) (d : Declaration) → slice_get types ty ≡ Some d → MayStand ty d.shape
  pub few : length types ≤ 2 + LIMITS.types
  pub legal : All IsName (all_names types)
  pub different : IsTrue (distinct (all_names types))
  pub narrow : All (λ w. w ≤ LIMITS.words) (widths types)
