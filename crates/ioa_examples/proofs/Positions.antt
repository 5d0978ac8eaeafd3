-- What the definitions say of positions over a table of declared types: each answer is computed.
use Rattle.std.proofs.Common.{◌≡◌, pos, true, false, List, [], ◌∷◌, refl}
use Rattle.ioa_value.specs.Plain.{num, truth, name}
use Rattle.ioa_value.specs.Positions.{Domain, every, takes, all_take, meets, all_meet, domain_type}
use Rattle.ioa_value.specs.Positions as spec
use Rattle.ioa_examples.proofs.ValueTexts.{sample, packet, single}

-- ---- values in a position

abbrev zero_alone : Domain
zero_alone = spec.single (num (pos 0))

constant_takes_itself : takes sample (spec.single packet) packet ≡ true
constant_takes_itself = refl

constant_takes_no_other : takes sample zero_alone (num (pos 1)) ≡ false
constant_takes_no_other = refl

type_takes_its_values : takes sample (every 3) packet ≡ true
type_takes_its_values = refl

type_takes_no_other : takes sample (every 3) single ≡ false
type_takes_no_other = refl

name_of_its_enumeration : takes sample (spec.single (name 2 0)) (name 5 0) ≡ false
name_of_its_enumeration = refl

type_of_constant : domain_type (spec.single packet) ≡ 3
type_of_constant = refl

-- ---- two positions

constant_meets_its_type : meets sample zero_alone (every 1) ≡ true
constant_meets_its_type = refl

type_meets_its_constant : meets sample (every 3) (spec.single packet) ≡ true
type_meets_its_constant = refl

constants_differ : meets sample zero_alone (spec.single (num (pos 1))) ≡ false
constants_differ = refl

constants_are_equal : meets sample (spec.single packet) (spec.single packet) ≡ true
constants_are_equal = refl

no_constant_of_another_type : meets sample (every 0) zero_alone ≡ false
no_constant_of_another_type = refl

types_are_equal : meets sample (every 1) (every 1) ≡ true
types_are_equal = refl

types_differ : meets sample (every 2) (every 5) ≡ false
types_differ = refl

-- ---- positions in a row

abbrev zero_and_number : List Domain
zero_and_number = zero_alone ∷ every 1 ∷ []

numbers_are_taken : all_take sample zero_and_number (num (pos 0) ∷ num (pos 7) ∷ []) ≡ true
numbers_are_taken = refl

first_is_not_taken : all_take sample zero_and_number (num (pos 1) ∷ num (pos 7) ∷ []) ≡ false
first_is_not_taken = refl

last_is_not_taken : all_take sample zero_and_number (num (pos 0) ∷ truth true ∷ []) ≡ false
last_is_not_taken = refl

one_value_is_missing : all_take sample zero_and_number (num (pos 0) ∷ []) ≡ false
one_value_is_missing = refl

one_value_too_many : all_take sample (zero_alone ∷ []) (num (pos 0) ∷ num (pos 7) ∷ []) ≡ false
one_value_too_many = refl

nothing_is_taken : all_take sample [] [] ≡ true
nothing_is_taken = refl

rows_meet : all_meet sample zero_and_number (every 1 ∷ spec.single (num (pos 7)) ∷ []) ≡ true
rows_meet = refl

rows_part_at_the_last : all_meet sample zero_and_number (zero_alone ∷ every 0 ∷ []) ≡ false
rows_part_at_the_last = refl

rows_of_different_lengths : all_meet sample zero_and_number (every 1 ∷ []) ≡ false
rows_of_different_lengths = refl
