-- What the scan, the bound and the machine say of some loops, computed from the definitions.
use Rattle.std.proofs.Common.{◌≡◌, ℕ, ◌+◌, ◌*◌, pos, List, [], ◌∷◌, codes, Some, refl}
use Rattle.ioa_value.specs.Table.{Table, truths, numbers, sequence}
use Rattle.ioa_value.specs.declared.operator.Op.TheVariants.{Add, Append}
use Rattle.ioa_code.specs.declared.instr.Instr.{Instr}
use Rattle.ioa_code.specs.declared.instr.Instr.TheVariants.{Const, Slot, Store, Jump, Apply, Each, Again, Local}
use Rattle.ioa_code.specs.declared.instr.PartKind.TheVariants.{Eff}
use Rattle.ioa_code.specs.declared.reason.Reason.TheVariants.{TooShort, BadLoop, Mistyped, NotForward}
use Rattle.ioa_code.specs.Valid.{Part}
use Rattle.ioa_code.specs.Scan.{good, bad, scan}
use Rattle.ioa_code.specs.Bound.{bound}
use Rattle.ioa_code.specs.Outcome.{outcome}
use Rattle.ioa_code.specs.Machine.{State, state, done, fault}
use Rattle.ioa_value.specs.Plain.{Val, num, items, none, more}
use Rattle.ioa_arithmetic.specs.declared.arithmetic.Fault.TheVariants.{Full}

abbrev table : Table
table = record { name = codes "Bool"; shape = truths } ∷ record { name = codes "Int"; shape = numbers } ∷ record { name = codes "S"; shape = sequence 3 1 } ∷ record { name = codes "T"; shape = sequence 2 2 } ∷ []

abbrev with_code : List Instr → Part
with_code is = record {
  code = record { types = table; instrs = is; consts = [] };
  kind = Eff;
  slots = 2 ∷ 1 ∷ 3 ∷ [];
  args = [];
  result = [];
}

-- for y in s do n := n + y od
abbrev summing : Instr → Instr → List Instr
summing third last = Slot 0 ∷ Each 7 ∷ third ∷ Local 1 ∷ Apply Add ∷ Store 1 ∷ last ∷ []

abbrev sum : Part
sum = with_code (summing (Slot 1) (Again 1))

-- for y in s do n := n + y; s := .. od: the constant, or s with y appended
abbrev folding : List Instr → ℕ → Part
folding change end = record {
  code = record { types = table; instrs = Slot 0 ∷ Each end ∷ Slot 1 ∷ Local 1 ∷ Apply Add ∷ Store 1 ∷ change; consts = items 2 none ∷ [] };
  kind = Eff;
  slots = 2 ∷ 1 ∷ [];
  args = [];
  result = [];
}

abbrev emptied : Part
emptied = folding (Const 0 ∷ Store 0 ∷ Again 1 ∷ []) 9

abbrev appended : Part
appended = folding (Slot 0 ∷ Local 1 ∷ Apply Append ∷ Store 0 ∷ Again 1 ∷ []) 11

abbrev two_five : Val
two_five = items 2 (more (num (pos 2)) (more (num (pos 5)) none))

abbrev begun : Val → State
begun s = state 0 [] (s ∷ num (pos 0) ∷ []) [] (λ k. 0) 0

-- for x in q do for y in x do n := n + y od od: a loop in a loop
abbrev nested : Part
nested = with_code (Slot 2 ∷ Each 10 ∷ Local 1 ∷ Each 9 ∷ Slot 1 ∷ Local 3 ∷ Apply Add ∷ Store 1 ∷ Again 3 ∷ Again 1 ∷ [])

sum_valid : scan sum ≡ good
sum_valid = refl

sum_bounded : bound sum ≡ 20
sum_bounded = refl

leads_back_elsewhere : scan (with_code (summing (Slot 1) (Again 0))) ≡ bad 1 BadLoop
leads_back_elsewhere = refl

list_is_popped : scan (with_code (summing (Store 1) (Again 1))) ≡ bad 2 TooShort
list_is_popped = refl

nested_valid : scan nested ≡ good
nested_valid = refl

-- over 2 and 5: n is 7, and s is empty
emptied_valid : scan emptied ≡ good
emptied_valid = refl

seven : outcome emptied (begun two_five) ≡ Some (done [] (items 2 none ∷ num (pos 7) ∷ []) 0)
seven = refl

-- where s grows in the body: the list is that at the loop's start; the second turn finds s full
appended_valid : scan appended ≡ good
appended_valid = refl

full : outcome appended (begun two_five) ≡ Some (fault Full 0)
full = refl

-- where there is no item
no_turn : outcome emptied (begun (items 2 none)) ≡ Some (done [] (items 2 none ∷ num (pos 0) ∷ []) 0)
no_turn = refl

nested_bounded : bound nested ≡ 1 + 3 + 2 * (1 + 4 + 3 * 5 + 1)
nested_bounded = refl

-- a jump into the body
jump_into_body : scan (with_code (Jump 4 ∷ Slot 0 ∷ Each 5 ∷ Jump 4 ∷ Again 2 ∷ [])) ≡ bad 0 BadLoop
jump_into_body = refl

-- a jump out of the body
jump_out_of_body : scan (with_code (Slot 0 ∷ Each 5 ∷ Jump 3 ∷ Jump 5 ∷ Again 1 ∷ [])) ≡ bad 3 BadLoop
jump_out_of_body = refl

-- an item too much at the end of the body
item_too_much : scan (with_code (Slot 0 ∷ Each 4 ∷ Local 1 ∷ Again 1 ∷ [])) ≡ bad 3 BadLoop
item_too_much = refl

-- no list
no_list : scan (with_code (Slot 1 ∷ Each 3 ∷ Again 1 ∷ [])) ≡ bad 1 Mistyped
no_list = refl

-- an Again alone
stray_again : scan (with_code (Slot 0 ∷ Again 0 ∷ [])) ≡ bad 1 BadLoop
stray_again = refl

stray_again_on_nothing : scan (with_code (Again 0 ∷ [])) ≡ bad 0 TooShort
stray_again_on_nothing = refl

-- an empty body
empty_body : scan (with_code (Slot 0 ∷ Each 3 ∷ Again 1 ∷ [])) ≡ good
empty_body = refl

empty_body_bounded : bound (with_code (Slot 0 ∷ Each 3 ∷ Again 1 ∷ [])) ≡ 8
empty_body_bounded = refl

-- nothing on the stack
no_such_item : scan (with_code (Local 0 ∷ [])) ≡ bad 0 TooShort
no_such_item = refl

-- inner Each on the outer's item: it is held
list_in_list_is_popped : scan (with_code (Slot 2 ∷ Each 5 ∷ Each 4 ∷ Again 2 ∷ Again 1 ∷ [])) ≡ bad 2 TooShort
list_in_list_is_popped = refl

-- bodies that cross
bodies_cross : scan (with_code (Slot 0 ∷ Each 5 ∷ Slot 0 ∷ Each 6 ∷ Again 1 ∷ Again 3 ∷ [])) ≡ bad 3 BadLoop
bodies_cross = refl

-- a body that would end before it begins
leads_back : scan (with_code (Slot 0 ∷ Each 1 ∷ Again 1 ∷ [])) ≡ bad 1 NotForward
leads_back = refl

-- four deep: the place in four bodies
four_deep : scan (with_code (Slot 0 ∷ Each 12 ∷ Slot 0 ∷ Each 11 ∷ Slot 0 ∷ Each 10 ∷ Slot 0 ∷ Each 9 ∷ Again 7 ∷ Again 5 ∷ Again 3 ∷ Again 1 ∷ [])) ≡ bad 8 BadLoop
four_deep = refl

three_deep : scan (with_code (Slot 0 ∷ Each 9 ∷ Slot 0 ∷ Each 8 ∷ Slot 0 ∷ Each 7 ∷ Again 5 ∷ Again 3 ∷ Again 1 ∷ [])) ≡ good
three_deep = refl
