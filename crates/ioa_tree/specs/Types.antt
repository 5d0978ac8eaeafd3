-- The types of a source, and what its names of types and of enumerations stand for.
use Rattle.std.specs.Prelude.{ℕ, Bool, false, List, [], ◌∷◌, ◌++◌, Option, Some, None, option_and_then}
use Rattle.std.specs.Option.{option_map, option_map_or}
use Rattle.ioa_value.specs.Actions.{Name}
use Rattle.ioa_value.specs.Plain.{Val, truth, name, items, none}
use Rattle.ioa_value.specs.Table.{Table, TupleField, Shape, names, fields, Declaration, basic, type_named, item_type, constant_named}
use Rattle.ioa_value.specs.Table.{sequence as sequence_shape}
use Rattle.ioa_value.specs.Typing.{is_of, first_of}
use Rattle.ioa_tree.specs.Tree.{FieldTree, FormTree, enumeration, tuple, sequence, TypeTree, declared_type, automaton, composition, invariant, SourceTree}

-- ---- declared types

abbrev pub with_field : FieldTree → Option ℕ → Option (List TupleField) → Option (List TupleField)
with_field f (Some ty) (Some fs) = Some (record { name = f.name; ty = ty } ∷ fs)
with_field f (Some ty) None = None
with_field f None rest = None

-- the fields with the numbers of their types, where all of these are known
abbrev pub numbered : Table → List FieldTree → Option (List TupleField)
numbered types [] = Some []
numbered types (f ∷ fs) = with_field f (type_named types f.ty) (numbered types fs)

-- what a type is declared to be, by the types before it; nothing where it names one that is not among them
abbrev pub shape_of : Table → FormTree → Option Shape
shape_of types (enumeration ns) = Some (names ns)
shape_of types (tuple fs) = option_map fields (numbered types fs)
shape_of types (sequence most of) = option_map (sequence_shape most) (type_named types of)

abbrev pub declared : TypeTree → Shape → Declaration
declared d shape = record { name = d.name; shape = shape }

-- the types with one more, where it names earlier types alone
abbrev pub with_type : Table → TypeTree → Table
with_type types d = option_map_or (λ shape. types ++ declared d shape ∷ []) (shape_of types d.form) types

-- the types with those that the declarations add, in order
abbrev pub declared_from : Table → SourceTree → Table
declared_from types [] = types
declared_from types (declared_type d ∷ ds) = declared_from (with_type types d) ds
declared_from types (automaton a ∷ ds) = declared_from types ds
declared_from types (composition c ∷ ds) = declared_from types ds
declared_from types (invariant i ∷ ds) = declared_from types ds

-- the types that the source's expressions are of: Bool and Int, then those that it declares
abbrev pub types_of : SourceTree → Table
types_of s = declared_from basic s

-- ---- names

-- the value is of the type of this name
abbrev pub is_named : Table → Name → Val → Bool
is_named types x v = option_map_or (λ ty. is_of types v ty) (type_named types x) false

-- the first value of the type of this name
abbrev pub first_named : Table → Name → Val
first_named types x = option_map_or (first_of types) (type_named types x) (truth false)

-- the number of the sequence type of this name
abbrev pub sequence_named : Table → Name → Option ℕ
sequence_named types x = option_and_then (λ ty. option_map (λ of. ty) (item_type types ty)) (type_named types x)

-- the empty sequence of the type of this name
abbrev pub empty_of : Table → Name → Option Val
empty_of types x = option_map (λ ty. items ty none) (sequence_named types x)

-- what an enumeration's name stands for, everywhere
abbrev pub constant : Table → Name → Option Val
constant types x = option_map (λ p. name p.0 p.1) (constant_named types x)

-- the number of the enumeration that has this name
abbrev pub constant_type : Table → Name → Option ℕ
constant_type types x = option_map (λ p. p.0) (constant_named types x)
