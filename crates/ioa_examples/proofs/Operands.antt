-- What the machine does with operands of an operator's types and of others: each move is computed.
use Rattle.std.proofs.Common.{◌≡◌, List, [], ◌∷◌, true, refl}
use Rattle.ioa_arithmetic.specs.declared.arithmetic.Fault.TheVariants.{Full}
use Rattle.ioa_value.specs.declared.operator.Op.{Op}
use Rattle.ioa_value.specs.declared.operator.Op.TheVariants.{Add, Eq, Head, Append, At, Member, Without, Make, Field}
use Rattle.ioa_value.specs.Plain.{Val, truth, tuple, items, vals}
use Rattle.ioa_value.specs.Operators.{gives, operate}
use Rattle.ioa_code.specs.declared.instr.Instr.TheVariants.{Apply}
use Rattle.ioa_code.specs.Machine.{state, Move, goes, over, fault, stuck, act}
use Rattle.ioa_examples.proofs.SequenceOperators.{table, S, n, ty}

-- the operator on a stack of its operands alone
abbrev on : Op → List Val → Move
on op operands = act (record { types = table; instrs = []; consts = [] }) (Apply op) (state 0 operands [] [] (λ k. k) 0)

-- the value in their place
abbrev left : Val → Move
left v = goes (state 1 (v ∷ []) [] [] (λ k. k) 0)

-- ---- items of a sequence's type, and others

appended : on Append (S (7 ∷ []) ∷ n 8 ∷ []) ≡ left (S (7 ∷ 8 ∷ []))
appended = refl

appended_to_full : on Append (S (7 ∷ 8 ∷ 9 ∷ []) ∷ n 1 ∷ []) ≡ over (fault Full 0)
appended_to_full = refl

-- no truth value is appended to numbers, though the operator's definition takes any item
truth_among_numbers : operate table Append (S (7 ∷ []) ∷ truth true ∷ []) ≡ gives (items 2 (vals (n 7 ∷ truth true ∷ [])))
truth_among_numbers = refl

no_truth_is_appended : on Append (S (7 ∷ []) ∷ truth true ∷ []) ≡ stuck
no_truth_is_appended = refl

-- nor to a full sequence: it is stuck, and has no fault
no_truth_to_full : on Append (S (7 ∷ 8 ∷ 9 ∷ []) ∷ truth true ∷ []) ≡ stuck
no_truth_to_full = refl

no_sequence_is_appended : on Append (S (7 ∷ []) ∷ S (8 ∷ []) ∷ []) ≡ stuck
no_sequence_is_appended = refl

taken_out : on Without (S (7 ∷ 8 ∷ []) ∷ n 7 ∷ []) ≡ left (S (8 ∷ []))
taken_out = refl

no_truth_is_taken_out : on Without (S (7 ∷ 8 ∷ []) ∷ truth true ∷ []) ≡ stuck
no_truth_is_taken_out = refl

no_sequence_is_taken_out : on Without (S (7 ∷ 8 ∷ []) ∷ S (7 ∷ []) ∷ []) ≡ stuck
no_sequence_is_taken_out = refl

is_member : on Member (n 8 ∷ S (7 ∷ 8 ∷ []) ∷ []) ≡ left (truth true)
is_member = refl

-- a truth value is in no sequence of numbers, and is not asked for there
no_truth_is_looked_for : on Member (truth true ∷ S (7 ∷ 8 ∷ []) ∷ []) ≡ stuck
no_truth_is_looked_for = refl

no_sequence_is_looked_for : on Member (S (7 ∷ []) ∷ S (7 ∷ 8 ∷ []) ∷ []) ≡ stuck
no_sequence_is_looked_for = refl

-- ---- fields of a tuple's types, and others

made : on (Make (ty 4)) (S (7 ∷ []) ∷ truth true ∷ []) ≡ left (tuple 4 (vals (S (7 ∷ []) ∷ truth true ∷ [])))
made = refl

not_of_a_number : on (Make (ty 4)) (S (7 ∷ []) ∷ n 1 ∷ []) ≡ stuck
not_of_a_number = refl

not_in_another_order : on (Make (ty 4)) (truth true ∷ S (7 ∷ []) ∷ []) ≡ stuck
not_in_another_order = refl

-- types 2 and 3 have the same shape, and are told apart
not_of_another_type : on (Make (ty 4)) (items 3 (vals (n 7 ∷ [])) ∷ truth true ∷ []) ≡ stuck
not_of_another_type = refl

-- ---- other operators

no_sum : on Add (n 7 ∷ truth true ∷ []) ≡ stuck
no_sum = refl

not_compared : on Eq (S (7 ∷ []) ∷ items 3 (vals (n 7 ∷ [])) ∷ []) ≡ stuck
not_compared = refl

no_head : on Head (n 7 ∷ []) ≡ stuck
no_head = refl

no_place : on At (S (7 ∷ []) ∷ truth true ∷ []) ≡ stuck
no_place = refl

no_field : on (Field 0) (S (7 ∷ []) ∷ []) ≡ stuck
no_field = refl

too_few : on Append (n 8 ∷ []) ≡ stuck
too_few = refl
