-- Values without the memory that holds them: what definitions and contracts speak of.
use Rattle.std.specs.Prelude.{ℕ, suc, ℤ, Bool, List, [], ◌∷◌}
use Rattle.ioa_value.specs.declared.value.Ty.{Ty}
use Rattle.ioa_value.specs.declared.value.Value.{Value, Tuple', Items', Row_of-Value, end_of-Value, more_of-Value}
use Rattle.ioa_value.specs.declared.value.Value.TheVariants.{Truth, Num, Name}

-- a value: what an operator gives and takes
mutual
  pub data Val : Type 0 where
    truth : Bool → Val
    num : ℤ → Val
    name : ℕ → ℕ → Val
    tuple : ℕ → Vals → Val
    items : ℕ → Vals → Val

  pub data Vals : Type 0 where
    none : Vals
    more : Val → Vals → Vals

-- a type's number
abbrev pub number : Ty → ℕ
number ty = ty.0

-- how many values there are
abbrev pub count : Vals → ℕ
count none = 0
count (more v vs) = suc (count vs)

-- values in a row, as a list
abbrev pub vals : List Val → Vals
vals [] = none
vals (v ∷ vs) = more v (vals vs)

abbrev pub listed : Vals → List Val
listed none = []
listed (more v vs) = v ∷ listed vs

abbrev mutual
  pub plain : Value → Val
  plain (Truth b) = truth b
  plain (Num n) = num n
  plain (Name ty n) = name ty.0 n
  plain (Tuple' ty shape parts) = tuple ty.0 (plains parts)
  plain (Items' ty shape parts) = items ty.0 (plains parts)

  pub plains : {m : _} → Row_of-Value m → Vals
  plains end_of-Value = none
  plains (more_of-Value v rest) = more (plain v) (plains rest)

abbrev pub plain_all : List Value → Vals
plain_all [] = none
plain_all (v ∷ vs) = more (plain v) (plain_all vs)
