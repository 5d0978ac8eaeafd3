-- What a type can be.
use Rattle.std.specs.Prelude.{ℕ, List}
use Rattle.ioa_value.specs.Actions.{Name}

-- a field of a tuple: its name, and its type's number
pub record TupleField : Type 0 where
  pub name : Name
  pub ty : ℕ

-- what a type is: the truth values, the whole numbers of 64 bits, names, tuples of these fields, or sequences of at most so many items of a type
pub data Shape : Type 0 where
  truths : Shape
  numbers : Shape
  names : List Name → Shape
  fields : List TupleField → Shape
  sequence : ℕ → ℕ → Shape

-- a type's name, and what it is
pub record Declaration : Type 0 where
  pub name : Name
  pub shape : Shape
