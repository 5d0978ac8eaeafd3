-- Each type is a set of values.
use Rattle.std.specs.Prelude.{ℕ, zero, suc, Bool, true, false, ◌&&◌, ◌==◌, nat_lt, nat_le, IsTrue, pos, List, [], ◌∷◌, length, Option, Some, None}
use Rattle.ioa_arithmetic.specs.Arithmetic.{fits}
use Rattle.ioa_value.specs.Plain.{Val, Vals, truth, num, name, tuple, items, none, more, count}
use Rattle.ioa_value.specs.Table.{Table, Shape, truths, numbers, names, fields, sequence, shape_at, types_of}

-- the shape has a name of this number
abbrev pub is_name_of : Option Shape → ℕ → Bool
is_name_of (Some (names ns)) n = nat_lt n (length ns)
is_name_of (Some truths) n = false
is_name_of (Some numbers) n = false
is_name_of (Some (fields fs)) n = false
is_name_of (Some (sequence most of)) n = false
is_name_of None n = false

-- the shape is a tuple's, whose fields have types that pass
abbrev pub of_fields : Option Shape → (List ℕ → Bool) → Bool
of_fields (Some (fields fs)) test = test (types_of fs)
of_fields (Some truths) test = false
of_fields (Some numbers) test = false
of_fields (Some (names ns)) test = false
of_fields (Some (sequence most of)) test = false
of_fields None test = false

-- the shape is a sequence's, whose capacity and type of items pass
abbrev pub of_sequence : Option Shape → (ℕ → ℕ → Bool) → Bool
of_sequence (Some (sequence most of)) test = test most of
of_sequence (Some truths) test = false
of_sequence (Some numbers) test = false
of_sequence (Some (names ns)) test = false
of_sequence (Some (fields fs)) test = false
of_sequence None test = false

abbrev mutual
  -- whether the value is one of the type's
  pub is_of : Table → Val → ℕ → Bool
  is_of types (truth b) ty = ty == 0
  is_of types (num z) ty = (ty == 1) && fits z
  is_of types (name own n) ty = (ty == own) && is_name_of (shape_at types own) n
  is_of types (tuple own vs) ty = (ty == own) && of_fields (shape_at types own) (λ tys. parts_are types vs tys)
  is_of types (items own vs) ty =
      (ty == own) && of_sequence (shape_at types own) (λ most of. nat_le (count vs) most && items_are types vs of)

  -- whether each part is of the type in its place
  pub parts_are : Table → Vals → List ℕ → Bool
  parts_are types none [] = true
  parts_are types none (ty ∷ tys) = false
  parts_are types (more v vs) [] = false
  parts_are types (more v vs) (ty ∷ tys) = is_of types v ty && parts_are types vs tys

  -- whether each item is of the type
  pub items_are : Table → Vals → ℕ → Bool
  items_are types none ty = true
  items_are types (more v vs) ty = is_of types v ty && items_are types vs ty

-- the value is one of the type's
abbrev pub HasType : Table → Val → ℕ → Type 0
HasType types v ty = IsTrue (is_of types v ty)

-- each value has the type in its place
abbrev pub HaveTypes : Table → List Val → List ℕ → Type 0
HaveTypes types [] [] = Unit {0}
HaveTypes types [] (ty ∷ tys) = ⊥
HaveTypes types (v ∷ vs) [] = ⊥
HaveTypes types (v ∷ vs) (ty ∷ tys) = HasType types v ty × HaveTypes types vs tys

-- the type that a value says it has
abbrev pub own : Val → ℕ
own (truth b) = 0
own (num z) = 1
own (name ty n) = ty
own (tuple ty vs) = ty
own (items ty vs) = ty

-- each value is one of the type that it says it has
abbrev pub OwnTypes : Table → List Val → Type 0
OwnTypes types [] = Unit {0}
OwnTypes types (v ∷ vs) = HasType types v (own v) × OwnTypes types vs

-- the values that are given for these types
abbrev pub firsts : (ℕ → Val) → List ℕ → Vals
firsts first [] = none
firsts first (ty ∷ tys) = more (first ty) (firsts first tys)

-- the first value of a type of this shape, by those of earlier types; of a number that is no type's it is false
abbrev pub first_shaped : (ℕ → Val) → ℕ → Option Shape → Val
first_shaped first ty (Some truths) = truth false
first_shaped first ty (Some numbers) = num (pos 0)
first_shaped first ty (Some (names ns)) = name ty 0
first_shaped first ty (Some (fields fs)) = tuple ty (firsts first (types_of fs))
first_shaped first ty (Some (sequence most of)) = items ty none
first_shaped first ty None = truth false

-- the first value of a type, tuples within tuples at most n deep: in a table of types none is deeper than its number
abbrev pub first_in : ℕ → Table → ℕ → Val
first_in zero types ty = truth false
first_in (suc n) types ty = first_shaped (λ t. first_in n types t) ty (shape_at types ty)

-- the first value of a type: false, 0, the first name, the tuple of first values, the empty sequence
abbrev pub first_of : Table → ℕ → Val
first_of types ty = first_in (suc ty) types ty
