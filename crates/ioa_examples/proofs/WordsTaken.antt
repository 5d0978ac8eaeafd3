-- What code that takes words gives, and how many words it takes: each run is computed.
use Rattle.std.proofs.Common.{◌≡◌, ℕ, zero, suc, neg_ℤ, true, false, List, [], ◌∷◌, ◌++◌, Option, Some, None, Ok, refl, pos}
use Rattle.std.specs.Prelude.{codes}
use Rattle.ioa_arithmetic.specs.declared.arithmetic.Fault.TheVariants.{ZeroDivisor}
use Rattle.ioa_value.specs.declared.operator.Op.TheVariants.{Div}
use Rattle.ioa_value.specs.Plain.{Val, num, truth, name}
use Rattle.ioa_value.specs.Table.{Table, names, sequence, basic}
use Rattle.ioa_code.specs.declared.instr.Instr.{Instr}
use Rattle.ioa_code.specs.declared.instr.Instr.TheVariants.{Const, Jump, JumpIfFalse, Any, Pick, Apply}
use Rattle.ioa_code.specs.declared.instr.PartKind.{PartKind}
use Rattle.ioa_code.specs.declared.instr.PartKind.TheVariants.{Pre, Propose, Eff}
use Rattle.ioa_code.specs.Reasons.{number_of}
use Rattle.ioa_code.specs.Machine.{state, Move, goes, over, idle, fault, stuck, act}
use Rattle.ioa_code.specs.Outcome.{outcome}
use Rattle.ioa_code.specs.Valid.{Part, way, after}
use Rattle.ioa_code.specs.Scan.{Verdict, good, bad, scan}
use Rattle.ioa_parts.specs.Proposals.{proposing, proposal_of, words_of}
use Rattle.ioa_examples.proofs.SequenceOperators.{n, ty}

-- type 2: red, green, blue; type 3: sequences of numbers
abbrev table : Table
table =
    basic
    ++ record { name = codes "Colour"; shape = names (codes "red" ∷ codes "green" ∷ codes "blue" ∷ []) }
    ∷ record { name = codes "S"; shape = sequence 3 1 }
    ∷ []

-- code over constants 6, 0, -3, 1 and false, which gives values of these types
abbrev code : PartKind → List Instr → List ℕ → Part
code kind instrs result = record {
  code = record { types = table; instrs = instrs; consts = n 6 ∷ n 0 ∷ num (neg_ℤ (pos 3)) ∷ n 1 ∷ truth false ∷ [] };
  kind = kind;
  slots = [];
  args = [];
  result = result;
}

abbrev tries : List Instr → List ℕ → Part
tries instrs result = code Propose instrs result

-- these words, and then 0
abbrev words : List ℕ → ℕ → ℕ
words [] k = 0
words (w ∷ ws) zero = w
words (w ∷ ws) (suc k) = words ws k

-- ---- a number below another one

abbrev die : Part
die = tries (Const 0 ∷ Any ∷ []) (1 ∷ [])

rolled : proposal_of die [] (words (17 ∷ 4 ∷ [])) ≡ Some (n 5 ∷ [])
rolled = refl

one_word : words_of die [] (words (17 ∷ 4 ∷ [])) ≡ 1
one_word = refl

greatest_word : proposal_of die [] (words (4294967295 ∷ [])) ≡ Some (n 3 ∷ [])
greatest_word = refl

below_itself : proposal_of die [] (words (6 ∷ [])) ≡ Some (n 0 ∷ [])
below_itself = refl

two_dice : proposal_of (tries (Const 0 ∷ Any ∷ Const 0 ∷ Any ∷ []) (1 ∷ 1 ∷ [])) [] (words (17 ∷ 4 ∷ [])) ≡ Some (n 5 ∷ n 4 ∷ [])
two_dice = refl

-- below 1 there is 0 alone, and a word is taken for it
below_one : proposal_of (tries (Const 3 ∷ Any ∷ []) (1 ∷ [])) [] (words (17 ∷ [])) ≡ Some (n 0 ∷ [])
below_one = refl

for_one : words_of (tries (Const 3 ∷ Any ∷ []) (1 ∷ [])) [] (words (17 ∷ [])) ≡ 1
for_one = refl

-- below 0, and below -3, there is none, and no word is taken
below_nothing : outcome (tries (Const 1 ∷ Any ∷ []) (1 ∷ [])) (proposing [] (words (17 ∷ []))) ≡ Some (idle 0)
below_nothing = refl

below_less : outcome (tries (Const 2 ∷ Any ∷ []) (1 ∷ [])) (proposing [] (words (17 ∷ []))) ≡ Some (idle 0)
below_less = refl

no_values : proposal_of (tries (Const 1 ∷ Any ∷ []) (1 ∷ [])) [] (words (17 ∷ [])) ≡ None
no_values = refl

-- a number below another may be the bound of the next: 17 mod 6 is 5, and 9 mod 5 is 4
below_below : proposal_of (tries (Const 0 ∷ Any ∷ Any ∷ []) (1 ∷ [])) [] (words (17 ∷ 9 ∷ [])) ≡ Some (n 4 ∷ [])
below_below = refl

-- ---- a value of a type

abbrev colour : Part
colour = tries (Pick (ty 2) ∷ []) (2 ∷ [])

first_name : proposal_of colour [] (words (9 ∷ [])) ≡ Some (name 2 0 ∷ [])
first_name = refl

last_name : proposal_of colour [] (words (11 ∷ [])) ≡ Some (name 2 2 ∷ [])
last_name = refl

even_is_false : proposal_of (tries (Pick (ty 0) ∷ []) (0 ∷ [])) [] (words (8 ∷ [])) ≡ Some (truth false ∷ [])
even_is_false = refl

odd_is_true : proposal_of (tries (Pick (ty 0) ∷ []) (0 ∷ [])) [] (words (7 ∷ [])) ≡ Some (truth true ∷ [])
odd_is_true = refl

-- words go to the instructions in their order
three : proposal_of (tries (Pick (ty 2) ∷ Const 0 ∷ Any ∷ Pick (ty 0) ∷ []) (2 ∷ 1 ∷ 0 ∷ [])) [] (words (10 ∷ 17 ∷ 1 ∷ [])) ≡ Some (name 2 1 ∷ n 5 ∷ truth true ∷ [])
three = refl

three_words : words_of (tries (Pick (ty 2) ∷ Const 0 ∷ Any ∷ Pick (ty 0) ∷ []) (2 ∷ 1 ∷ 0 ∷ [])) [] (words (10 ∷ 17 ∷ 1 ∷ [])) ≡ 3
three_words = refl

-- by the way that is taken: where the first word is odd, another one is taken
abbrev perhaps : Part
perhaps = tries (Pick (ty 0) ∷ JumpIfFalse 4 ∷ Pick (ty 2) ∷ Jump 5 ∷ Pick (ty 2) ∷ []) (2 ∷ [])

either_way : proposal_of perhaps [] (words (1 ∷ 2 ∷ [])) ≡ Some (name 2 2 ∷ [])
either_way = refl

-- ---- words that were taken stay taken

idle_after_one : outcome (tries (Pick (ty 0) ∷ Const 1 ∷ Any ∷ []) (0 ∷ 1 ∷ [])) (proposing [] (words (7 ∷ []))) ≡ Some (idle 1)
idle_after_one = refl

fault_after_one : outcome (tries (Pick (ty 0) ∷ Const 0 ∷ Const 1 ∷ Apply Div ∷ []) (0 ∷ 1 ∷ [])) (proposing [] (words (7 ∷ []))) ≡ Some (fault ZeroDivisor 1)
fault_after_one = refl

fault_gives_none : proposal_of (tries (Pick (ty 0) ∷ Const 0 ∷ Const 1 ∷ Apply Div ∷ []) (0 ∷ 1 ∷ [])) [] (words (7 ∷ [])) ≡ None
fault_gives_none = refl

without_words : words_of (tries (Const 0 ∷ []) (1 ∷ [])) [] (words (7 ∷ [])) ≡ 0
without_words = refl

-- ---- one instruction, on this stack

abbrev on : Instr → List Val → Move
on i stack = act (record { types = table; instrs = []; consts = [] }) i (state 0 stack [] [] (words (17 ∷ 4 ∷ [])) 1)

-- what lies below stays, and the next word is the second one
second_word : on Any (truth true ∷ n 3 ∷ []) ≡ goes (state 1 (truth true ∷ n 1 ∷ []) [] [] (words (17 ∷ 4 ∷ [])) 2)
second_word = refl

no_number : on Any (truth true ∷ []) ≡ stuck
no_number = refl

nothing_there : on Any [] ≡ stuck
nothing_there = refl

over_at_once : on Any (n 0 ∷ []) ≡ over (idle 1)
over_at_once = refl

no_number_is_picked : on (Pick (ty 1)) [] ≡ stuck
no_number_is_picked = refl

no_sequence_is_picked : on (Pick (ty 3)) [] ≡ stuck
no_sequence_is_picked = refl

no_type : on (Pick (ty 9)) [] ≡ stuck
no_type = refl

-- ---- valid code

-- the place and the number of the reason with which code is refused
abbrev pub told : Verdict → Option (ℕ × ℕ)
told good = None
told (bad at why) = Some (at, number_of why)

valid : told (scan (tries (Pick (ty 2) ∷ Const 0 ∷ Any ∷ Pick (ty 0) ∷ []) (2 ∷ 1 ∷ 0 ∷ []))) ≡ None
valid = refl

both_ways_valid : told (scan perhaps) ≡ None
both_ways_valid = refl

not_in_a_precondition : told (scan (code Pre (Const 0 ∷ Any ∷ []) (1 ∷ []))) ≡ Some (1, 3)
not_in_a_precondition = refl

not_picked_in_a_precondition : told (scan (code Pre (Pick (ty 0) ∷ []) (0 ∷ []))) ≡ Some (0, 3)
not_picked_in_a_precondition = refl

not_in_an_effect : told (scan (code Eff (Pick (ty 0) ∷ []) [])) ≡ Some (0, 3)
not_in_an_effect = refl

-- leave comes before what is on the stack, and before the type
leave_comes_first : told (scan (code Eff (Any ∷ []) [])) ≡ Some (0, 3)
leave_comes_first = refl

leave_before_the_type : told (scan (code Eff (Pick (ty 1) ∷ []) [])) ≡ Some (0, 3)
leave_before_the_type = refl

none_to_pop : told (scan (tries (Any ∷ []) (1 ∷ []))) ≡ Some (0, 4)
none_to_pop = refl

below_a_truth : told (scan (tries (Const 4 ∷ Any ∷ []) (1 ∷ []))) ≡ Some (1, 5)
below_a_truth = refl

numbers_are_not_counted : told (scan (tries (Pick (ty 1) ∷ []) (1 ∷ []))) ≡ Some (0, 5)
numbers_are_not_counted = refl

sequences_are_not_counted : told (scan (tries (Pick (ty 3) ∷ []) (3 ∷ []))) ≡ Some (0, 5)
sequences_are_not_counted = refl

not_a_type : told (scan (tries (Pick (ty 9) ∷ []) (9 ∷ []))) ≡ Some (0, 5)
not_a_type = refl

-- the type of a number below another is Int
leaves_a_number : after (tries [] []) 0 4 Any (0 ∷ 1 ∷ []) ≡ Ok (way 5 (0 ∷ 1 ∷ []) ∷ [])
leaves_a_number = refl

leaves_a_name : after (tries [] []) 0 4 (Pick (ty 2)) (1 ∷ []) ≡ Ok (way 5 (1 ∷ 2 ∷ []) ∷ [])
leaves_a_name = refl
