-- What the definitions say of operators on some operands, and of texts of values: each answer is computed.
use Rattle.std.proofs.Common.{◌≡◌, ℕ, ℤ, pos, neg_ℤ, true, false, [], ◌∷◌, Some, None, codes, refl}
use Rattle.ioa_arithmetic.specs.declared.arithmetic.Fault.TheVariants.{Overflow, ZeroDivisor}
use Rattle.ioa_value.specs.declared.operator.Op.{Op}
use Rattle.ioa_value.specs.declared.operator.Op.TheVariants.{Neg, Add, Sub, Mul, Div, Mod, Lt, Le, Gt, Ge, Not, Eq, Ne}
use Rattle.ioa_value.specs.Plain.{Val, num, truth, name, tuple, items, none, more}
use Rattle.ioa_value.specs.Table.{Table, bool, int, names, fields, sequence, basic}
use Rattle.ioa_value.specs.Scanning.{scan_value}
use Rattle.ioa_value.specs.Widths.{widths}
use Rattle.ioa_value.specs.Written.{written_value, written_action}
use Rattle.ioa_value.specs.Operators.{Answer, gives, faults, nothing, operate, op_type}

abbrev minus : ℕ → ℤ
minus n = neg_ℤ (pos n)

abbrev least : ℤ
least = minus 9223372036854775808

abbrev greatest : ℤ
greatest = pos 9223372036854775807

abbrev of_two : Op → ℤ → ℤ → Answer
of_two op a b = operate basic op (num a ∷ num b ∷ [])

-- ---- quotients and remainders

quotient_goes_down : of_two Div (minus 7) (pos 2) ≡ gives (num (minus 4))
quotient_goes_down = refl

remainder_goes_up : of_two Mod (minus 7) (pos 2) ≡ gives (num (pos 1))
remainder_goes_up = refl

quotient_by_negative : of_two Div (pos 7) (minus 2) ≡ gives (num (minus 3))
quotient_by_negative = refl

remainder_by_negative : of_two Mod (pos 7) (minus 2) ≡ gives (num (pos 1))
remainder_by_negative = refl

quotient_of_negatives : of_two Div (minus 7) (minus 2) ≡ gives (num (pos 4))
quotient_of_negatives = refl

remainder_of_negatives : of_two Mod (minus 7) (minus 2) ≡ gives (num (pos 1))
remainder_of_negatives = refl

whole_quotient : of_two Div (minus 8) (minus 2) ≡ gives (num (pos 4))
whole_quotient = refl

quotient_does_not_fit : of_two Div least (minus 1) ≡ faults Overflow
quotient_does_not_fit = refl

remainder_fits : of_two Mod least (minus 1) ≡ gives (num (pos 0))
remainder_fits = refl

no_quotient_by_zero : of_two Div (pos 1) (pos 0) ≡ faults ZeroDivisor
no_quotient_by_zero = refl

no_remainder_by_zero : of_two Mod (pos 1) (pos 0) ≡ faults ZeroDivisor
no_remainder_by_zero = refl

-- ---- what does not fit

sum_does_not_fit : of_two Add greatest (pos 1) ≡ faults Overflow
sum_does_not_fit = refl

difference_does_not_fit : of_two Sub (pos 0) least ≡ faults Overflow
difference_does_not_fit = refl

product_does_not_fit : of_two Mul least (minus 1) ≡ faults Overflow
product_does_not_fit = refl

product_fits : of_two Mul (minus 3) (pos 4) ≡ gives (num (minus 12))
product_fits = refl

negative_does_not_fit : operate basic Neg (num least ∷ []) ≡ faults Overflow
negative_does_not_fit = refl

negative_fits : operate basic Neg (num greatest ∷ []) ≡ gives (num (minus 9223372036854775807))
negative_fits = refl

-- ---- truth values

not_less : of_two Lt (pos 2) (pos 2) ≡ gives (truth false)
not_less = refl

at_most : of_two Le (pos 2) (pos 2) ≡ gives (truth true)
at_most = refl

not_greater : of_two Gt (pos 2) (pos 2) ≡ gives (truth false)
not_greater = refl

at_least : of_two Ge (pos 2) (pos 2) ≡ gives (truth true)
at_least = refl

less_below_zero : of_two Lt (minus 3) (minus 2) ≡ gives (truth true)
less_below_zero = refl

turned : operate basic Not (truth true ∷ []) ≡ gives (truth false)
turned = refl

same_truths : operate basic Eq (truth false ∷ truth false ∷ []) ≡ gives (truth true)
same_truths = refl

different_numbers : of_two Ne (pos 2) (minus 2) ≡ gives (truth true)
different_numbers = refl

-- ---- operands that are not the operator's

no_truth_is_less : operate basic Lt (truth false ∷ truth true ∷ []) ≡ nothing
no_truth_is_less = refl

unlike : operate basic Ne (num (pos 1) ∷ truth true ∷ []) ≡ nothing
unlike = refl

number_of_numbers : op_type basic Mod (1 ∷ 1 ∷ []) ≡ Some 1
number_of_numbers = refl

truth_of_numbers : op_type basic Ge (1 ∷ 1 ∷ []) ≡ Some 0
truth_of_numbers = refl

no_number_of_truth : op_type basic Neg (0 ∷ []) ≡ None
no_number_of_truth = refl

no_truth_of_two : op_type basic Not (0 ∷ 0 ∷ []) ≡ None
no_truth_of_two = refl

-- ---- texts of values

-- Kind, type 2; Pkt, type 3, of a Kind and three numbers; S, type 4, of one number at most; Mode, type 5
abbrev pub sample : Table
sample =
    bool ∷ int ∷ record { name = codes "Kind"; shape = names (codes "data" ∷ codes "ack" ∷ []) }
    ∷ record {
      name = codes "Pkt";
      shape = fields (record { name = codes "kind"; ty = 2 } ∷ record { name = codes "tag"; ty = 1 } ∷ record { name = codes "id"; ty = 1 } ∷ record { name = codes "m"; ty = 1 } ∷ []);
    }
    ∷ record { name = codes "S"; shape = sequence 1 1 } ∷ record { name = codes "Mode"; shape = names (codes "idle" ∷ []) } ∷ []

abbrev pub packet : Val
packet = tuple 3 (more (name 2 0) (more (num (pos 1)) (more (num (pos 0)) (more (num (pos 7)) none))))

abbrev pub single : Val
single = items 4 (more (num (pos 1)) none)

sample_widths : widths sample ≡ 1 ∷ 1 ∷ 1 ∷ 4 ∷ 2 ∷ 1 ∷ []
sample_widths = refl

name_is_written : written_action sample (record { name = codes "p"; vals = name 2 1 ∷ truth true ∷ [] }) ≡ codes "p(ack, true)"
unfolding written_action
name_is_written = refl

nothing_is_written : written_value sample (items 4 none) ≡ codes "S[]"
nothing_is_written = refl

packet_is_read : scan_value sample (codes "Pkt(data, 1, 0, 7))") ≡ Some (packet, codes ")")
packet_is_read = refl

blanks_are_read : scan_value sample (codes " S[ 01 ] )") ≡ Some (single, codes ")")
blanks_are_read = refl

empty_is_read : scan_value sample (codes "S[ ])") ≡ Some (items 4 none, codes ")")
empty_is_read = refl

name_is_read : scan_value sample (codes "ack , 1)") ≡ Some (name 2 1, codes ", 1)")
name_is_read = refl

no_more_than_fit : scan_value sample (codes "S[1, 2])") ≡ None
no_more_than_fit = refl

no_other_type : scan_value sample (codes "Pkt(1, 1, 0, 7))") ≡ None
no_other_type = refl

no_other_enumeration : scan_value sample (codes "Pkt(idle, 1, 0, 7))") ≡ None
no_other_enumeration = refl

no_missing_field : scan_value sample (codes "Pkt(data, 1, 0))") ≡ None
no_missing_field = refl

no_unknown_type : scan_value sample (codes "T[1])") ≡ None
no_unknown_type = refl

no_unknown_name : scan_value sample (codes "nack)") ≡ None
no_unknown_name = refl

no_deeper_value : scan_value sample (codes "S[S[1]])") ≡ None
no_deeper_value = refl

no_other_mark : scan_value sample (codes "S(1))") ≡ None
no_other_mark = refl
