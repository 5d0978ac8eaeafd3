-- What the definitions say of some values as words, and of operators on them: each answer is computed.
use Rattle.std.proofs.Common.{◌≡◌, ℕ, pos, negsuc, ℤ, true, false, List, [], ◌∷◌, ◌++◌, length, map, Ok, Err, Result, refl}
use Rattle.std.specs.Prelude.{codes}
use Rattle.ioa_arithmetic.specs.declared.arithmetic.Fault.{Fault}
use Rattle.ioa_arithmetic.specs.declared.arithmetic.Fault.TheVariants.{Empty, OutOfRange, Full, Overflow}
use Rattle.ioa_value.specs.declared.operator.Op.{Op}
use Rattle.ioa_value.specs.declared.operator.Op.TheVariants.{Add, Eq, Len, Head, Tail, Last, Init, Append, At, Member, Without, Make, Field}
use Rattle.ioa_value.specs.declared.value.Ty.{Ty}
use Rattle.ioa_value.specs.Plain.{Val, num, truth, name, tuple, items, vals}
use Rattle.ioa_value.specs.Table.{Table, names, fields, sequence, basic}
use Rattle.ioa_value.specs.Widths.{widths}
use Rattle.ioa_sequences.specs.Sequences.{zeros}
use Rattle.ioa_words.specs.Layout.{first_word_of, flat, flat_all, value_of, values_of}
use Rattle.ioa_words.specs.WordOperators.{made_of}
use Rattle.ioa_words.specs.Decoding.{decoded}
use Rattle.ioa_words.specs.declared.word_op.WordOp.TheVariants as words

-- queues of at most sixteen numbers, type 2; pairs of a number and a truth value, type 3; sequences of at most two pairs, type 4; and
-- two colours, type 5
abbrev pub table : Table
table =
    basic
    ++ record { name = codes "Queue"; shape = sequence 16 1 }
    ∷ record { name = codes "Pair"; shape = fields (record { name = codes "a"; ty = 1 } ∷ record { name = codes "b"; ty = 0 } ∷ []) }
    ∷ record { name = codes "Pairs"; shape = sequence 2 3 }
    ∷ record { name = codes "Colour"; shape = names (codes "red" ∷ codes "blue" ∷ []) }
    ∷ []

abbrev n : ℕ → Val
n k = num (pos k)

abbrev pair : ℕ → Val
pair k = tuple 3 (vals (n k ∷ truth true ∷ []))

abbrev pairs : List Val → Val
pairs vs = items 4 (vals vs)

abbrev row : List ℕ → List ℤ
row ns = map pos ns

-- the words that an operator makes of its operands'
abbrev of : Op → List ℕ → List ℕ → Result (List ℤ) Fault
of op tys ns = made_of (decoded table op tys) (row ns)

wide : widths table ≡ 1 ∷ 1 ∷ 17 ∷ 2 ∷ 5 ∷ 1 ∷ []
wide = refl

-- a queue with two numbers, a number and a truth value
state : flat_all table (items 2 (vals (n 0 ∷ n 1 ∷ [])) ∷ n 2 ∷ truth true ∷ []) ≡ row (2 ∷ 0 ∷ 1 ∷ []) ++ zeros 14 ++ row (2 ∷ 1 ∷ [])
state = refl

state_is_nineteen_words : length (flat_all table (items 2 (vals (n 0 ∷ n 1 ∷ [])) ∷ n 2 ∷ truth true ∷ [])) ≡ 19
state_is_nineteen_words = refl

state_is_read : values_of table (2 ∷ 1 ∷ 0 ∷ []) (row (2 ∷ 0 ∷ 1 ∷ []) ++ zeros 14 ++ row (2 ∷ 1 ∷ [])) ≡ items 2 (vals (n 0 ∷ n 1 ∷ [])) ∷ n 2 ∷ truth true ∷ []
state_is_read = refl

second_variable_begins : first_word_of table (2 ∷ 1 ∷ 0 ∷ []) 1 ≡ 17
second_variable_begins = refl

third_variable_begins : first_word_of table (2 ∷ 1 ∷ 0 ∷ []) 2 ≡ 18
third_variable_begins = refl

one_pair : flat table (pairs (pair 7 ∷ [])) ≡ row (1 ∷ 7 ∷ 1 ∷ 0 ∷ 0 ∷ [])
one_pair = refl

no_pair : flat table (pairs []) ≡ row (0 ∷ 0 ∷ 0 ∷ 0 ∷ 0 ∷ [])
no_pair = refl

negative : flat table (num (negsuc 6)) ≡ negsuc 6 ∷ []
negative = refl

blue : flat table (name 5 1) ≡ pos 1 ∷ []
blue = refl

blue_is_read : value_of table 5 (pos 1 ∷ []) ≡ name 5 1
blue_is_read = refl

-- ---- operators

tail_of_one : of Tail (4 ∷ []) (1 ∷ 7 ∷ 1 ∷ 0 ∷ 0 ∷ []) ≡ Ok (row (0 ∷ 0 ∷ 0 ∷ 0 ∷ 0 ∷ []))
tail_of_one = refl

tail_of_two : of Tail (4 ∷ []) (2 ∷ 7 ∷ 1 ∷ 8 ∷ 0 ∷ []) ≡ Ok (row (1 ∷ 8 ∷ 0 ∷ 0 ∷ 0 ∷ []))
tail_of_two = refl

no_tail : of Tail (4 ∷ []) (0 ∷ 0 ∷ 0 ∷ 0 ∷ 0 ∷ []) ≡ Err Empty
no_tail = refl

init_of_two : of Init (4 ∷ []) (2 ∷ 7 ∷ 1 ∷ 8 ∷ 0 ∷ []) ≡ Ok (row (1 ∷ 7 ∷ 1 ∷ 0 ∷ 0 ∷ []))
init_of_two = refl

head_is_first : of Head (4 ∷ []) (2 ∷ 7 ∷ 1 ∷ 8 ∷ 0 ∷ []) ≡ Ok (row (7 ∷ 1 ∷ []))
head_is_first = refl

last_is_last : of Last (4 ∷ []) (2 ∷ 7 ∷ 1 ∷ 8 ∷ 0 ∷ []) ≡ Ok (row (8 ∷ 0 ∷ []))
last_is_last = refl

no_head : of Head (4 ∷ []) (0 ∷ 0 ∷ 0 ∷ 0 ∷ 0 ∷ []) ≡ Err Empty
no_head = refl

length_comes_first : of Len (4 ∷ []) (2 ∷ 7 ∷ 1 ∷ 8 ∷ 0 ∷ []) ≡ Ok (row (2 ∷ []))
length_comes_first = refl

at_one : of At (4 ∷ 1 ∷ []) (2 ∷ 7 ∷ 1 ∷ 8 ∷ 0 ∷ 1 ∷ []) ≡ Ok (row (8 ∷ 0 ∷ []))
at_one = refl

not_at_length : of At (4 ∷ 1 ∷ []) (1 ∷ 7 ∷ 1 ∷ 0 ∷ 0 ∷ 1 ∷ []) ≡ Err OutOfRange
not_at_length = refl

appended : of Append (4 ∷ 3 ∷ []) (1 ∷ 7 ∷ 1 ∷ 0 ∷ 0 ∷ 8 ∷ 1 ∷ []) ≡ Ok (row (2 ∷ 7 ∷ 1 ∷ 8 ∷ 1 ∷ []))
appended = refl

append_to_full : of Append (4 ∷ 3 ∷ []) (2 ∷ 7 ∷ 1 ∷ 8 ∷ 1 ∷ 9 ∷ 1 ∷ []) ≡ Err Full
append_to_full = refl

is_member : of Member (3 ∷ 4 ∷ []) (8 ∷ 1 ∷ 2 ∷ 7 ∷ 1 ∷ 8 ∷ 1 ∷ []) ≡ Ok (row (1 ∷ []))
is_member = refl

is_no_member : of Member (3 ∷ 4 ∷ []) (0 ∷ 0 ∷ 1 ∷ 7 ∷ 1 ∷ 0 ∷ 0 ∷ []) ≡ Ok (row (0 ∷ []))
is_no_member = refl

without_the_first : of Without (4 ∷ 3 ∷ []) (2 ∷ 7 ∷ 1 ∷ 7 ∷ 1 ∷ 7 ∷ 1 ∷ []) ≡ Ok (row (1 ∷ 7 ∷ 1 ∷ 0 ∷ 0 ∷ []))
without_the_first = refl

without_absent : of Without (4 ∷ 3 ∷ []) (1 ∷ 7 ∷ 1 ∷ 0 ∷ 0 ∷ 7 ∷ 0 ∷ []) ≡ Ok (row (1 ∷ 7 ∷ 1 ∷ 0 ∷ 0 ∷ []))
without_absent = refl

second_field : of (Field 1) (3 ∷ []) (7 ∷ 1 ∷ []) ≡ Ok (row (1 ∷ []))
second_field = refl

made : of (Make (record { 0 = 3 })) (1 ∷ 0 ∷ []) (7 ∷ 1 ∷ []) ≡ Ok (row (7 ∷ 1 ∷ []))
made = refl

equal_pairs : of Eq (3 ∷ 3 ∷ []) (7 ∷ 1 ∷ 7 ∷ 1 ∷ []) ≡ Ok (row (1 ∷ []))
equal_pairs = refl

sum : of Add (1 ∷ 1 ∷ []) (7 ∷ 8 ∷ []) ≡ Ok (row (15 ∷ []))
sum = refl

-- one word has an operator of its own
words_are_compared : decoded table Eq (1 ∷ 1 ∷ []) ≡ words.EqWord
words_are_compared = refl

pairs_are_compared : decoded table Eq (3 ∷ 3 ∷ []) ≡ words.Eq 2
pairs_are_compared = refl

a_number_is_appended : decoded table Append (2 ∷ 1 ∷ []) ≡ words.AppendWord 17
a_number_is_appended = refl

a_pair_is_appended : decoded table Append (4 ∷ 3 ∷ []) ≡ words.Append (record { item = 2; all = 5 })
a_pair_is_appended = refl
