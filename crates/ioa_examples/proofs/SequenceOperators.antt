-- What the definitions say of operators on some sequences and tuples: each answer is computed.
use Rattle.std.proofs.Common.{◌≡◌, ℕ, pos, neg_ℤ, true, false, List, [], ◌∷◌, ◌++◌, map, Some, None, refl}
use Rattle.std.specs.Prelude.{codes}
use Rattle.ioa_arithmetic.specs.declared.arithmetic.Fault.TheVariants.{Empty, OutOfRange, Full}
use Rattle.ioa_value.specs.declared.operator.Op.{Op}
use Rattle.ioa_value.specs.declared.operator.Op.TheVariants.{Len, Head, Tail, Last, Init, Append, At, Member, Without, Make, Field}
use Rattle.ioa_value.specs.declared.value.Ty.{Ty}
use Rattle.ioa_value.specs.Plain.{Val, num, truth, tuple, items, vals}
use Rattle.ioa_value.specs.Table.{Table, fields, sequence, basic, field_place}
use Rattle.ioa_value.specs.Operators.{Answer, gives, faults, nothing, operate, op_type, arity}

-- sequences of at most three numbers, type 2 and again type 3, and pairs of such a sequence and a truth value, type 4
abbrev pub table : Table
table =
    basic
    ++ record { name = codes "S"; shape = sequence 3 1 }
    ∷ record { name = codes "R"; shape = sequence 3 1 }
    ∷ record { name = codes "P"; shape = fields (record { name = codes "s"; ty = 2 } ∷ record { name = codes "b"; ty = 0 } ∷ []) }
    ∷ []

abbrev numbers_of : List ℕ → List Val
numbers_of ns = map (λ n. num (pos n)) ns

-- `S[n, ..]`
abbrev pub S : List ℕ → Val
S ns = items 2 (vals (numbers_of ns))

abbrev pub n : ℕ → Val
n k = num (pos k)

abbrev pub ty : ℕ → Ty
ty k = record { 0 = k }

abbrev of : Op → List Val → Answer
of op vs = operate table op vs

-- ---- sequences

length_of_two : of Len (S (7 ∷ 8 ∷ []) ∷ []) ≡ gives (n 2)
length_of_two = refl

length_of_none : of Len (S [] ∷ []) ≡ gives (n 0)
length_of_none = refl

head_is_first : of Head (S (7 ∷ 8 ∷ []) ∷ []) ≡ gives (n 7)
head_is_first = refl

no_head : of Head (S [] ∷ []) ≡ faults Empty
no_head = refl

tail_is_rest : of Tail (S (7 ∷ 8 ∷ 9 ∷ []) ∷ []) ≡ gives (S (8 ∷ 9 ∷ []))
tail_is_rest = refl

tail_of_one : of Tail (S (7 ∷ []) ∷ []) ≡ gives (S [])
tail_of_one = refl

no_tail : of Tail (S [] ∷ []) ≡ faults Empty
no_tail = refl

last_is_last : of Last (S (7 ∷ 8 ∷ 9 ∷ []) ∷ []) ≡ gives (n 9)
last_is_last = refl

no_last : of Last (S [] ∷ []) ≡ faults Empty
no_last = refl

init_is_all_but_last : of Init (S (7 ∷ 8 ∷ 9 ∷ []) ∷ []) ≡ gives (S (7 ∷ 8 ∷ []))
init_is_all_but_last = refl

no_init : of Init (S [] ∷ []) ≡ faults Empty
no_init = refl

appended_last : of Append (S (7 ∷ 8 ∷ []) ∷ n 9 ∷ []) ≡ gives (S (7 ∷ 8 ∷ 9 ∷ []))
appended_last = refl

append_to_full : of Append (S (7 ∷ 8 ∷ 9 ∷ []) ∷ n 1 ∷ []) ≡ faults Full
append_to_full = refl

at_from_zero : of At (S (7 ∷ 8 ∷ []) ∷ n 0 ∷ []) ≡ gives (n 7)
at_from_zero = refl

at_last : of At (S (7 ∷ 8 ∷ []) ∷ n 1 ∷ []) ≡ gives (n 8)
at_last = refl

not_at_length : of At (S (7 ∷ 8 ∷ []) ∷ n 2 ∷ []) ≡ faults OutOfRange
not_at_length = refl

not_below_zero : of At (S (7 ∷ 8 ∷ []) ∷ num (neg_ℤ (pos 1)) ∷ []) ≡ faults OutOfRange
not_below_zero = refl

is_member : of Member (n 8 ∷ S (7 ∷ 8 ∷ []) ∷ []) ≡ gives (truth true)
is_member = refl

is_no_member : of Member (n 9 ∷ S (7 ∷ 8 ∷ []) ∷ []) ≡ gives (truth false)
is_no_member = refl

without_the_first : of Without (S (1 ∷ 2 ∷ 1 ∷ []) ∷ n 1 ∷ []) ≡ gives (S (2 ∷ 1 ∷ []))
without_the_first = refl

without_absent : of Without (S (1 ∷ 2 ∷ 1 ∷ []) ∷ n 3 ∷ []) ≡ gives (S (1 ∷ 2 ∷ 1 ∷ []))
without_absent = refl

-- ---- tuples

made : of (Make (ty 4)) (S (7 ∷ []) ∷ truth true ∷ []) ≡ gives (tuple 4 (vals (S (7 ∷ []) ∷ truth true ∷ [])))
made = refl

made_of_too_few : of (Make (ty 4)) (S (7 ∷ []) ∷ []) ≡ nothing
made_of_too_few = refl

second_field : of (Field 1) (tuple 4 (vals (S (7 ∷ []) ∷ truth true ∷ [])) ∷ []) ≡ gives (truth true)
second_field = refl

no_third_field : of (Field 2) (tuple 4 (vals (S (7 ∷ []) ∷ truth true ∷ [])) ∷ []) ≡ nothing
no_third_field = refl

place_of_a_field : field_place table 4 (codes "b") ≡ Some 1
place_of_a_field = refl

place_of_no_field : field_place table 4 (codes "c") ≡ None
place_of_no_field = refl

-- ---- types

two_fields : arity table (Make (ty 4)) ≡ 2
two_fields = refl

length_of_a_truth : op_type table Len (0 ∷ []) ≡ None
length_of_a_truth = refl

item_of_a_sequence : op_type table Head (2 ∷ []) ≡ Some 1
item_of_a_sequence = refl

sequence_of_a_sequence : op_type table Tail (3 ∷ []) ≡ Some 3
sequence_of_a_sequence = refl

appended_type : op_type table Append (2 ∷ 1 ∷ []) ≡ Some 2
appended_type = refl

no_truth_is_appended : op_type table Append (2 ∷ 0 ∷ []) ≡ None
no_truth_is_appended = refl

number_is_a_place : op_type table At (2 ∷ 1 ∷ []) ≡ Some 1
number_is_a_place = refl

truth_is_no_place : op_type table At (2 ∷ 0 ∷ []) ≡ None
truth_is_no_place = refl

item_comes_first : op_type table Member (1 ∷ 2 ∷ []) ≡ Some 0
item_comes_first = refl

sequence_comes_second : op_type table Member (2 ∷ 1 ∷ []) ≡ None
sequence_comes_second = refl

made_type : op_type table (Make (ty 4)) (2 ∷ 0 ∷ []) ≡ Some 4
made_type = refl

-- types are told apart by number, also where they are alike
another_sequence_type : op_type table (Make (ty 4)) (3 ∷ 0 ∷ []) ≡ None
another_sequence_type = refl

another_order : op_type table (Make (ty 4)) (0 ∷ 2 ∷ []) ≡ None
another_order = refl

no_tuple_type : op_type table (Make (ty 2)) [] ≡ None
no_tuple_type = refl

field_type : op_type table (Field 0) (4 ∷ []) ≡ Some 2
field_type = refl

no_third_field_type : op_type table (Field 2) (4 ∷ []) ≡ None
no_third_field_type = refl
