-- What each operator gives.
use Rattle.std.specs.Prelude.{◌≡◌, ℕ, ◌-◌, ◌<◌, nat_lt, ℤ, pos, ◌+ℤ◌, ◌-ℤ◌, ◌*ℤ◌, neg_ℤ, int_lt, int_le, Bool, true, false, not, ◌&&◌, ◌==◌, List, [], ◌∷◌, ◌++◌, length, take, drop, Result, Ok, Err, Option, Some, None, if◌then◌else◌, slice_get}
use Rattle.std.specs.List.{list_any}
use Rattle.std.specs.Option.{option_map}
use Rattle.ioa_arithmetic.specs.declared.arithmetic.Fault.{Fault}
use Rattle.ioa_arithmetic.specs.declared.arithmetic.Fault.TheVariants.{Empty, OutOfRange, Full}
use Rattle.ioa_value.specs.declared.operator.Op.{Op}
use Rattle.ioa_value.specs.declared.operator.Op.TheVariants.{Neg, Add, Sub, Mul, Div, Mod, Lt, Le, Gt, Ge, Not, Eq, Ne, Len, Head, Tail, Last, Init, Append, At, Member, Without, Make, Field}
use Rattle.ioa_value.specs.declared.operator.Class.{Class}
use Rattle.ioa_value.specs.declared.operator.Class.TheVariants.{Negation, Arithmetic, Comparison, Denial, Equality, Size, Item, Shortening, Change, Index, Membership, Construction, Projection}
use Rattle.ioa_value.specs.declared.value.Value.{Value}
use Rattle.ioa_arithmetic.specs.Arithmetic.{tested, quotient, remainder}
use Rattle.ioa_value.specs.Plain.{Val, Vals, truth, num, name, tuple, items, vals, listed, count, plain}
use Rattle.ioa_value.specs.Table.{Table, shape_at, item_type, capacity, field_types}
use Rattle.ioa_value.specs.Typing.{HasType, of_fields, own}
use Rattle.ioa_value.specs.Same.{same}
use Rattle.ioa_value.specs.Sequences.{first_item, last_item, all_but_first, all_but_last, item_at, without_first}

-- a value, a fault, or nothing, where the operands are not the operator's
pub data Answer : Type 0 where
  gives : Val → Answer
  faults : Fault → Answer
  nothing : Answer

abbrev pub answer_of : Result Value Fault → Answer
answer_of (Ok v) = gives (plain v)
answer_of (Err f) = faults f

abbrev pub of_number : Result ℤ Fault → Answer
of_number (Ok z) = gives (num z)
of_number (Err f) = faults f

-- ---- operands

abbrev pub one : (Val → Answer) → List Val → Answer
one f [] = nothing
one f (x ∷ []) = f x
one f (x ∷ y ∷ vs) = nothing

abbrev pub two : (Val → Val → Answer) → List Val → Answer
two f [] = nothing
two f (x ∷ []) = nothing
two f (x ∷ y ∷ []) = f x y
two f (x ∷ y ∷ z ∷ vs) = nothing

abbrev pub with_number : (ℤ → Answer) → Val → Answer
with_number f (num z) = f z
with_number f (truth b) = nothing
with_number f (name ty n) = nothing
with_number f (tuple ty vs) = nothing
with_number f (items ty vs) = nothing

abbrev pub with_truth : (Bool → Answer) → Val → Answer
with_truth f (truth b) = f b
with_truth f (num z) = nothing
with_truth f (name ty n) = nothing
with_truth f (tuple ty vs) = nothing
with_truth f (items ty vs) = nothing

-- the type of a sequence, and its items
abbrev pub with_items : (ℕ → List Val → Answer) → Val → Answer
with_items f (items ty vs) = f ty (listed vs)
with_items f (truth b) = nothing
with_items f (num z) = nothing
with_items f (name ty n) = nothing
with_items f (tuple ty vs) = nothing

abbrev pub with_fields : (List Val → Answer) → Val → Answer
with_fields f (tuple ty vs) = f (listed vs)
with_fields f (truth b) = nothing
with_fields f (num z) = nothing
with_fields f (name ty n) = nothing
with_fields f (items ty vs) = nothing

abbrev pub on_number : (ℤ → Answer) → List Val → Answer
on_number f vs = one (with_number f) vs

abbrev pub on_numbers : (ℤ → ℤ → Answer) → List Val → Answer
on_numbers f vs = two (λ v w. with_number (λ x. with_number (f x) w) v) vs

abbrev pub on_truth : (Bool → Answer) → List Val → Answer
on_truth f vs = one (with_truth f) vs

-- two values of one type
abbrev pub on_alike : (Val → Val → Answer) → List Val → Answer
on_alike f vs = two (λ v w. if own v == own w then f v w else nothing) vs

abbrev pub on_sequence : (ℕ → List Val → Answer) → List Val → Answer
on_sequence f vs = one (with_items f) vs

abbrev pub on_sequence_and_item : (ℕ → List Val → Val → Answer) → List Val → Answer
on_sequence_and_item f vs = two (λ v x. with_items (λ s xs. f s xs x) v) vs

abbrev pub on_sequence_and_number : (List Val → ℤ → Answer) → List Val → Answer
on_sequence_and_number f vs = two (λ v w. with_items (λ s xs. with_number (f xs) w) v) vs

abbrev pub on_item_and_sequence : (Val → List Val → Answer) → List Val → Answer
on_item_and_sequence f vs = two (λ x v. with_items (λ s xs. f x xs) v) vs

abbrev pub on_tuple : (List Val → Answer) → List Val → Answer
on_tuple f vs = one (with_fields f) vs

-- ---- answers

-- the item, or the fault where there is none
abbrev pub of_item : Fault → Option Val → Answer
of_item f (Some x) = gives x
of_item f None = faults f

-- the sequence of these items, or the fault that there are none
abbrev pub of_items : ℕ → Option (List Val) → Answer
of_items s (Some xs) = gives (items s (vals xs))
of_items s None = faults Empty

-- the field, which has to be there
abbrev pub of_field : Option Val → Answer
of_field (Some x) = gives x
of_field None = nothing

-- ---- operators

-- the operator's value or fault, of the operands in order
abbrev pub operate : Table → Op → List Val → Answer
operate types Neg vs = on_number (λ x. of_number (tested (neg_ℤ x))) vs
operate types Add vs = on_numbers (λ x y. of_number (tested (x +ℤ y))) vs
operate types Sub vs = on_numbers (λ x y. of_number (tested (x -ℤ y))) vs
operate types Mul vs = on_numbers (λ x y. of_number (tested (x *ℤ y))) vs
operate types Div vs = on_numbers (λ x y. of_number (quotient x y)) vs
operate types Mod vs = on_numbers (λ x y. of_number (remainder x y)) vs
operate types Lt vs = on_numbers (λ x y. gives (truth (int_lt x y))) vs
operate types Le vs = on_numbers (λ x y. gives (truth (int_le x y))) vs
operate types Gt vs = on_numbers (λ x y. gives (truth (int_lt y x))) vs
operate types Ge vs = on_numbers (λ x y. gives (truth (int_le y x))) vs
operate types Not vs = on_truth (λ b. gives (truth (not b))) vs
operate types Eq vs = on_alike (λ v w. gives (truth (same v w))) vs
operate types Ne vs = on_alike (λ v w. gives (truth (not (same v w)))) vs
operate types Len vs = on_sequence (λ s xs. gives (num (pos (length xs)))) vs
operate types Head vs = on_sequence (λ s xs. of_item Empty (first_item xs)) vs
operate types Tail vs = on_sequence (λ s xs. of_items s (all_but_first xs)) vs
operate types Last vs = on_sequence (λ s xs. of_item Empty (last_item xs)) vs
operate types Init vs = on_sequence (λ s xs. of_items s (all_but_last xs)) vs
operate types Append vs =
    on_sequence_and_item (λ s xs x. if nat_lt (length xs) (capacity types s) then gives (items s (vals (xs ++ x ∷ []))) else faults Full) vs
operate types At vs = on_sequence_and_number (λ xs z. of_item OutOfRange (item_at xs z)) vs
operate types Member vs = on_item_and_sequence (λ x xs. gives (truth (list_any (same x) xs))) vs
operate types Without vs = on_sequence_and_item (λ s xs x. gives (items s (vals (without_first x xs)))) vs
operate types (Make ty) vs = if length vs == length (field_types types ty.0) then gives (tuple ty.0 (vals vs)) else nothing
operate types (Field j) vs = on_tuple (λ xs. of_field (slice_get xs j)) vs

-- the class of the operator, which says what it takes and gives
abbrev pub class_of : Op → Class
class_of Neg = Negation
class_of Add = Arithmetic
class_of Sub = Arithmetic
class_of Mul = Arithmetic
class_of Div = Arithmetic
class_of Mod = Arithmetic
class_of Lt = Comparison
class_of Le = Comparison
class_of Gt = Comparison
class_of Ge = Comparison
class_of Not = Denial
class_of Eq = Equality
class_of Ne = Equality
class_of Len = Size
class_of Head = Item
class_of Tail = Shortening
class_of Last = Item
class_of Init = Shortening
class_of Append = Change
class_of At = Index
class_of Member = Membership
class_of Without = Change
class_of (Make ty) = Construction ty
class_of (Field j) = Projection j

abbrev pub arity_of : Table → Class → ℕ
arity_of types Negation = 1
arity_of types Arithmetic = 2
arity_of types Comparison = 2
arity_of types Denial = 1
arity_of types Equality = 2
arity_of types Size = 1
arity_of types Item = 1
arity_of types Shortening = 1
arity_of types Change = 2
arity_of types Index = 2
arity_of types Membership = 2
arity_of types (Construction ty) = length (field_types types ty.0)
arity_of types (Projection j) = 1

-- how many operands the operator takes
abbrev pub arity : Table → Op → ℕ
arity types op = arity_of types (class_of op)

-- whether the operator's value may take memory of its own: a number or a truth value takes none
abbrev pub grows_by : Class → Bool
grows_by Negation = false
grows_by Arithmetic = false
grows_by Comparison = false
grows_by Denial = false
grows_by Equality = false
grows_by Size = false
grows_by Item = true
grows_by Shortening = true
grows_by Change = true
grows_by Index = true
grows_by Membership = false
grows_by (Construction ty) = true
grows_by (Projection j) = true

abbrev pub grows : Op → Bool
grows op = grows_by (class_of op)

-- ---- types

-- what is given by the type of one operand, and by those of two
abbrev pub of_one : (ℕ → Option ℕ) → List ℕ → Option ℕ
of_one f [] = None
of_one f (a ∷ []) = f a
of_one f (a ∷ b ∷ tys) = None

abbrev pub of_two : (ℕ → ℕ → Option ℕ) → List ℕ → Option ℕ
of_two f [] = None
of_two f (a ∷ []) = None
of_two f (a ∷ b ∷ []) = f a b
of_two f (a ∷ b ∷ c ∷ tys) = None

-- the type is given where the test passes
abbrev pub given : ℕ → Bool → Option ℕ
given ty b = if b then Some ty else None

-- whether the type is that of an item, where there is one
abbrev pub is_that : Option ℕ → ℕ → Bool
is_that (Some item) a = a == item
is_that None a = false

-- whether the types are these, in order
abbrev pub are_these : List ℕ → List ℕ → Bool
are_these [] [] = true
are_these [] (b ∷ us) = false
are_these (a ∷ tys) [] = false
are_these (a ∷ tys) (b ∷ us) = (a == b) && are_these tys us

abbrev pub type_of : Table → Class → List ℕ → Option ℕ
type_of types Negation tys = of_one (λ a. given 1 (a == 1)) tys
type_of types Arithmetic tys = of_two (λ a b. given 1 ((a == 1) && (b == 1))) tys
type_of types Comparison tys = of_two (λ a b. given 0 ((a == 1) && (b == 1))) tys
type_of types Denial tys = of_one (λ a. given 0 (a == 0)) tys
type_of types Equality tys = of_two (λ a b. given 0 (a == b)) tys
type_of types Size tys = of_one (λ s. option_map (λ _. 1) (item_type types s)) tys
type_of types Item tys = of_one (λ s. item_type types s) tys
type_of types Shortening tys = of_one (λ s. option_map (λ _. s) (item_type types s)) tys
type_of types Change tys = of_two (λ s a. given s (is_that (item_type types s) a)) tys
type_of types Index tys = of_two (λ s a. if a == 1 then item_type types s else None) tys
type_of types Membership tys = of_two (λ a s. given 0 (is_that (item_type types s) a)) tys
type_of types (Construction ty) tys = given ty.0 (of_fields (shape_at types ty.0) (are_these tys))
type_of types (Projection j) tys = of_one (λ t. slice_get (field_types types t) j) tys

-- the type of what the operator gives, where it takes operands of these types
abbrev pub op_type : Table → Op → List ℕ → Option ℕ
op_type types op tys = type_of types (class_of op) tys

-- ---- operands that are an operator's

-- one sequence
abbrev pub IsSequence : List Val → Type 0
IsSequence vs = (s : ℕ) × (xs : Vals) × (vs ≡ items s xs ∷ [])

abbrev pub TakesBy : Table → Class → List Val → Type 0
TakesBy types Negation vs = (x : ℤ) × (vs ≡ num x ∷ [])
TakesBy types Arithmetic vs = (x : ℤ) × (y : ℤ) × (vs ≡ num x ∷ num y ∷ [])
TakesBy types Comparison vs = (x : ℤ) × (y : ℤ) × (vs ≡ num x ∷ num y ∷ [])
TakesBy types Denial vs = (b : Bool) × (vs ≡ truth b ∷ [])
TakesBy types Equality vs = (x : Val) × (y : Val) × (own x ≡ own y) × (vs ≡ x ∷ y ∷ [])
TakesBy types Size vs = IsSequence vs
TakesBy types Item vs = IsSequence vs
TakesBy types Shortening vs = IsSequence vs
TakesBy types Change vs = (s : ℕ) × (xs : Vals) × (x : Val) × (vs ≡ items s xs ∷ x ∷ [])
TakesBy types Index vs = (s : ℕ) × (xs : Vals) × (z : ℤ) × (vs ≡ items s xs ∷ num z ∷ [])
TakesBy types Membership vs = (x : Val) × (s : ℕ) × (xs : Vals) × (vs ≡ x ∷ items s xs ∷ [])
TakesBy types (Construction ty) vs = length vs ≡ length (field_types types ty.0)
TakesBy types (Projection j) vs = (ty : ℕ) × (xs : Vals) × (j < count xs) × (vs ≡ tuple ty xs ∷ [])

-- the operands are the operator's
abbrev pub Takes : Table → Op → List Val → Type 0
Takes types op vs = TakesBy types (class_of op) vs

-- a value of the type, or a fault
abbrev pub IsTypedAnswer : Table → ℕ → Answer → Type 0
IsTypedAnswer types ty (gives v) = HasType types v ty
IsTypedAnswer types ty (faults f) = Unit {0}
IsTypedAnswer types ty nothing = ⊥

-- ---- operands on top of a stack

-- the operator's operands, which a stack has on top, in order
abbrev pub operands_on : Table → Op → List Val → List Val
operands_on types op stack = drop (length stack - arity types op) stack

-- what lies below them
abbrev pub below_operands : Table → Op → List Val → List Val
below_operands types op stack = take (length stack - arity types op) stack

-- what the operator gives of them; they have gone off the stack
abbrev pub GoOff : Table → Op → List Val → List Val → Answer → Type 0
GoOff types op old new answer = (answer ≡ operate types op (operands_on types op old)) × (new ≡ below_operands types op old)

-- the operator's value stands in their place, or its fault is this
abbrev pub GivesOn : Table → Op → List Val → List Val → Result (Unit {0}) Fault → Type 0
GivesOn types op old new (Ok u) =
    (v : Val) × (operate types op (operands_on types op old) ≡ gives v) × (new ≡ below_operands types op old ++ v ∷ [])
GivesOn types op old new (Err f) = operate types op (operands_on types op old) ≡ faults f
