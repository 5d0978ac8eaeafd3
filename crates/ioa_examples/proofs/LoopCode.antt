-- Code with loops: how many instructions a run takes, how many it takes at most, and what is valid, computed.
use Rattle.std.proofs.Common.{◌≡◌, ℕ, List, [], ◌∷◌, ◌++◌, Option, Some, None, refl}
use Rattle.std.specs.Prelude.{codes}
use Rattle.ioa_value.specs.declared.operator.Op.TheVariants.{Add}
use Rattle.ioa_value.specs.Plain.{Vals, items, none, more}
use Rattle.ioa_value.specs.Table.{Table, sequence, basic}
use Rattle.ioa_code.specs.declared.instr.Instr.{Instr}
use Rattle.ioa_code.specs.declared.instr.Instr.TheVariants.{Slot, Store, Apply, Each, Again, Local}
use Rattle.ioa_code.specs.declared.instr.PartKind.TheVariants.{Eff}
use Rattle.ioa_code.specs.Machine.{State, state, End, done, Ends}
use Rattle.ioa_code.specs.Valid.{Part}
use Rattle.ioa_code.specs.Scan.{scan}
use Rattle.ioa_code.specs.Bound.{bound}
use Rattle.ioa_examples.proofs.SequenceOperators.{n}
use Rattle.ioa_examples.proofs.WordsTaken.{told}

-- type 2: sequences of at most three numbers
abbrev table : Table
table = basic ++ record { name = codes "S"; shape = sequence 3 1 } ∷ []

-- an effect, over a sequence and a number
abbrev effect : List Instr → Part
effect instrs = record { code = record { types = table; instrs = instrs; consts = [] }; kind = Eff; slots = 2 ∷ 1 ∷ []; args = []; result = [] }

-- a loop over the sequence that adds each item to the number
abbrev sums : Part
sums = effect (Slot 0 ∷ Each 7 ∷ Slot 1 ∷ Local 1 ∷ Apply Add ∷ Store 1 ∷ Again 1 ∷ [])

-- this loop within one over the same sequence
abbrev squares : Part
squares = effect (Slot 0 ∷ Each 10 ∷ Slot 0 ∷ Each 9 ∷ Slot 1 ∷ Local 3 ∷ Apply Add ∷ Store 1 ∷ Again 3 ∷ Again 1 ∷ [])

-- ---- from these items and this number so many instructions leave the items and that number

abbrev start : Vals → ℕ → State
start vs k = state 0 [] (items 2 vs ∷ n k ∷ []) [] (λ _. 0) 0

abbrev left : Vals → ℕ → End
left vs k = done [] (items 2 vs ∷ n k ∷ []) 0

abbrev one : Vals
one = more (n 2) none

abbrev two : Vals
two = more (n 2) (more (n 5) none)

abbrev three : Vals
three = more (n 2) (more (n 5) (more (n 4) none))

-- two without an item, and six for each: four of the statement, and two of the loop
without_items : Ends sums.code 2 (start none 3) (left none 3)
without_items = (refl, refl)

of_one : Ends sums.code 8 (start one 0) (left one 2)
of_one = (refl, refl)

of_two : Ends sums.code 14 (start two 0) (left two 7)
of_two = (refl, refl)

-- of as many as there may be it takes as many as it may take
of_three : (Ends sums.code 20 (start three 0) (left three 11)) × (bound sums ≡ 20)
of_three = ((refl, refl), refl)

-- each item of the outer loop takes two, and those of the inner one
within_two : Ends squares.code 34 (start two 0) (left two 14)
within_two = (refl, refl)

within_three : (Ends squares.code 68 (start three 0) (left three 33)) × (bound squares ≡ 68)
within_three = ((refl, refl), refl)

-- ---- which is valid

are_valid : (told (scan sums) ≡ None) × (told (scan squares) ≡ None)
are_valid = (refl, refl)

closes_no_loop : told (scan (effect (Slot 0 ∷ Each 7 ∷ Slot 1 ∷ Local 1 ∷ Apply Add ∷ Store 1 ∷ Again 0 ∷ []))) ≡ Some (1, 9)
closes_no_loop = refl

takes_the_item : told (scan (effect (Slot 0 ∷ Each 7 ∷ Store 1 ∷ Local 1 ∷ Apply Add ∷ Store 1 ∷ Again 1 ∷ []))) ≡ Some (2, 4)
takes_the_item = refl

over_a_number : told (scan (effect (Slot 1 ∷ Each 3 ∷ Again 1 ∷ []))) ≡ Some (1, 5)
over_a_number = refl

leaves_a_number : told (scan (effect (Slot 0 ∷ Each 4 ∷ Slot 1 ∷ Again 1 ∷ []))) ≡ Some (3, 9)
leaves_a_number = refl
