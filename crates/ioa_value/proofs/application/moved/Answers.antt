use Rattle.std.proofs.Common.{◌≡◌, ◌-◌, ◌∷◌, [], ◌++◌, map, length, refl, sym, ap, ◌∙◌, subst, arith, w64, to_z, of_z}
use Rattle.std.proofs.lemmas.Int.{to_z-of_z}
use Rattle.std.specs.Prelude.{slice_get, nat_lt, if◌then◌else◌}
use Rattle.ioa_arithmetic.specs.declared.arithmetic.Fault.TheVariants.{Empty, OutOfRange, Full}
use Rattle.ioa_value.specs.declared.operator.Op.TheVariants.{Head, Last, Tail, Init, Append, At, Without, Field}
use Rattle.ioa_value.specs.Plain.{plain, plain_all, num, items, tuple, vals}
use Rattle.ioa_value.specs.Table.{capacity}
use Rattle.ioa_value.specs.Sequences.{last_item, all_but_first, all_but_last, item_at, without_first}
use Rattle.ioa_value.specs.Operators.{gives, faults, of_item, of_items, of_field, operate, arity, operands_on, below_operands, Takes}
use Rattle.ioa_value.proofs.PlainLemmas.{listed-plain, plain-Tuple}
use Rattle.ioa_value.proofs.StackLemmas.{over, ok_map, topped, under, top_is, moved_as, both_moved, top_from, below_of, made_given, field_found}
use Rattle.ioa_value.proofs.application.moved.Goals as goal
use Rattle.ioa_value.proofs.SequenceLemmas.{put}

-- ---- operands are there

pub pop_sequence-requires : goal.pop_sequence-requires
pop_sequence-requires c =
    let types = c.args.types.now in
    let stack = map plain c.args.stack.now.items in
    let t = subst (λ o. Takes types o (operands_on types c.args.op stack)) c.in-Head.is c.requires.takes in
    (below_operands types c.args.op stack, t.0, t.1, topped types c.args.op stack (items t.0 t.1 ∷ []) t.2)

pub pop_sequence-requires-in-Last : goal.pop_sequence-requires-in-Last
pop_sequence-requires-in-Last c =
    let types = c.args.types.now in
    let stack = map plain c.args.stack.now.items in
    let t = subst (λ o. Takes types o (operands_on types c.args.op stack)) c.in-Last.is c.requires.takes in
    (below_operands types c.args.op stack, t.0, t.1, topped types c.args.op stack (items t.0 t.1 ∷ []) t.2)

pub pop_sequence-items-requires : goal.pop_sequence-items-requires
pop_sequence-items-requires c =
    let types = c.args.types.now in
    let stack = map plain c.args.stack.now.items in
    let t = subst (λ o. Takes types o (operands_on types c.args.op stack)) c.in-Tail.is c.requires.takes in
    (below_operands types c.args.op stack, t.0, t.1, topped types c.args.op stack (items t.0 t.1 ∷ []) t.2)

pub pop_sequence-items-requires-in-Init : goal.pop_sequence-items-requires-in-Init
pop_sequence-items-requires-in-Init c =
    let types = c.args.types.now in
    let stack = map plain c.args.stack.now.items in
    let t = subst (λ o. Takes types o (operands_on types c.args.op stack)) c.in-Init.is c.requires.takes in
    (below_operands types c.args.op stack, t.0, t.1, topped types c.args.op stack (items t.0 t.1 ∷ []) t.2)

pub pop_sequence-items-requires-in-Append : goal.pop_sequence-items-requires-in-Append
pop_sequence-items-requires-in-Append c =
    let types = c.args.types.now in
    let stack = map plain c.args.stack.now.items in
    let t = subst (λ o. Takes types o (operands_on types c.args.op stack)) c.in-Append.is c.requires.takes in
    let new = c.pop-item.new.stack.items in
    (below_operands types c.args.op stack, t.0, t.1, under types c.args.op stack (map plain new) (plain c.pop-item.result) (items t.0 t.1) (t.2) t.3 (put c.args.stack.now.items new c.pop-item.result c.pop-item.ensures))

pub pop_number-place-requires : goal.pop_number-place-requires
pop_number-place-requires c =
    let types = c.args.types.now in
    let stack = map plain c.args.stack.now.items in
    let t = subst (λ o. Takes types o (operands_on types c.args.op stack)) c.in-At.is c.requires.takes in
    let below = below_operands types c.args.op stack in
    (below ++ items t.0 t.1 ∷ [], t.2, topped types c.args.op stack (items t.0 t.1 ∷ num t.2 ∷ []) t.3 ∙ sym (over below (items t.0 t.1) (num t.2)))

pub pop_sequence-requires-in-At : goal.pop_sequence-requires-in-At
pop_sequence-requires-in-At c =
    let types = c.args.types.now in
    let stack = map plain c.args.stack.now.items in
    let t = subst (λ o. Takes types o (operands_on types c.args.op stack)) c.in-At.is c.requires.takes in
    let new = c.pop_number-place.new.stack.items in
    (below_operands types c.args.op stack, t.0, t.1, under types c.args.op stack (map plain new) (num c.pop_number-place.result) (items t.0 t.1) (num t.2) t.3 c.pop_number-place.ensures)

pub pop_sequence-items-requires-in-Without : goal.pop_sequence-items-requires-in-Without
pop_sequence-items-requires-in-Without c =
    let types = c.args.types.now in
    let stack = map plain c.args.stack.now.items in
    let t = subst (λ o. Takes types o (operands_on types c.args.op stack)) c.in-Without.is c.requires.takes in
    let new = c.pop-item-in-Without.new.stack.items in
    (below_operands types c.args.op stack, t.0, t.1, under types c.args.op stack (map plain new) (plain c.pop-item-in-Without.result) (items t.0 t.1) (t.2) t.3 (put c.args.stack.now.items new c.pop-item-in-Without.result c.pop-item-in-Without.ensures))

pub pop_fields-requires : goal.pop_fields-requires
pop_fields-requires c =
    let types = c.args.types.now in
    let stack = map plain c.args.stack.now.items in
    let t = subst (λ o. Takes types o (operands_on types c.args.op stack)) c.in-Field.is c.requires.takes in
    (below_operands types c.args.op stack, t.0, t.1, topped types c.args.op stack (tuple t.0 t.1 ∷ []) t.3)

pub unreachable-requires : goal.unreachable-requires
unreachable-requires c =
    let types = c.args.types.now in
    let stack = map plain c.args.stack.now.items in
    let top = operands_on types c.args.op stack in
    let t = subst (λ o. Takes types o top) c.in-Field.is c.requires.takes in
    let p = c.pop_fields.ensures in
    let fields = c.pop_fields.result.items in
    let is = top_is types c.args.op stack (map plain c.pop_fields.new.stack.items) (tuple p.0 (plain_all fields) ∷ []) p.1 (sym (ap (arity types) c.in-Field.is)) in
    field_found fields c.in-Field.place p.0 t.0 t.1 top is t.3 t.2 c.in-None.ensures

-- ---- what is given of them

pub returns-in-Head : goal.returns-in-Head
returns-in-Head c =
    let its = c.pop_sequence.result.1.items in
    let ty = c.pop_sequence.result.0 in
    moved_as c.args.types.now c.args.op (map plain c.args.stack.now.items) Head (map plain c.pop_sequence.new.stack.items) (items ty.0 (plain_all its) ∷ []) _ c.in-Head.is c.pop_sequence.ensures refl
    (c.head.ensures ∙ ap (λ l. of_item Empty (slice_get l 0)) (sym (listed-plain its)))

pub returns-in-Last : goal.returns-in-Last
returns-in-Last c =
    let its = c.pop_sequence-in-Last.result.1.items in
    let ty = c.pop_sequence-in-Last.result.0 in
    moved_as c.args.types.now c.args.op (map plain c.args.stack.now.items) Last (map plain c.pop_sequence-in-Last.new.stack.items) (items ty.0 (plain_all its) ∷ []) _ c.in-Last.is c.pop_sequence-in-Last.ensures refl
    (c.last.ensures ∙ ap (λ l. of_item Empty (last_item l)) (sym (listed-plain its)))

pub returns-in-Tail : goal.returns-in-Tail
returns-in-Tail c =
    let its = c.pop_sequence-items.result.1.items in
    let ty = c.pop_sequence-items.result.0 in
    moved_as c.args.types.now c.args.op (map plain c.args.stack.now.items) Tail (map plain c.pop_sequence-items.new.stack.items) (items ty.0 (plain_all its) ∷ []) _ c.in-Tail.is c.pop_sequence-items.ensures refl
    (c.tail.ensures ∙ ap (λ l. of_items ty.0 (all_but_first l)) (sym (listed-plain its)))

pub returns-in-Init : goal.returns-in-Init
returns-in-Init c =
    let its = c.pop_sequence-items-in-Init.result.1.items in
    let ty = c.pop_sequence-items-in-Init.result.0 in
    moved_as c.args.types.now c.args.op (map plain c.args.stack.now.items) Init (map plain c.pop_sequence-items-in-Init.new.stack.items) (items ty.0 (plain_all its) ∷ []) _ c.in-Init.is c.pop_sequence-items-in-Init.ensures refl
    (c.init.ensures ∙ ap (λ l. of_items ty.0 (all_but_last l)) (sym (listed-plain its)))

pub returns-in-At : goal.returns-in-At
returns-in-At c =
    let types = c.args.types.now in
    let its = c.pop_sequence-in-At.result.1.items in
    let ty = c.pop_sequence-in-At.result.0 in
    let back : to_z w64 (of_z w64 c.pop_number-place.result) ≡ c.pop_number-place.result = search (to_z-of_z) in
    both_moved types c.args.op (map plain c.args.stack.now.items) At (map plain c.pop_sequence-in-At.new.stack.items) (map plain c.pop_number-place.new.stack.items) (items ty.0 (plain_all its)) (num c.pop_number-place.result) _ c.in-At.is c.pop_number-place.ensures c.pop_sequence-in-At.ensures refl
    (c.at.ensures ∙ ap (λ z. of_item OutOfRange (item_at (map plain its) z)) back ∙ ap (λ l. of_item OutOfRange (item_at l c.pop_number-place.result)) (sym (listed-plain its)))

pub returns-in-Without : goal.returns-in-Without
returns-in-Without c =
    let types = c.args.types.now in
    let its = c.pop_sequence-items-in-Without.result.1.items in
    let ty = c.pop_sequence-items-in-Without.result.0 in
    both_moved types c.args.op (map plain c.args.stack.now.items) Without (map plain c.pop_sequence-items-in-Without.new.stack.items) (map plain c.pop-item-in-Without.new.stack.items) (items ty.0 (plain_all its)) (plain c.pop-item-in-Without.result) _ c.in-Without.is (put c.args.stack.now.items c.pop-item-in-Without.new.stack.items c.pop-item-in-Without.result c.pop-item-in-Without.ensures) c.pop_sequence-items-in-Without.ensures refl
    (ap gives c.without.ensures ∙ ap (λ l. gives (items ty.0 (vals (without_first (plain c.pop-item-in-Without.result) l)))) (sym (listed-plain its)))

pub returns-in-Append : goal.returns-in-Append
returns-in-Append c =
    let types = c.args.types.now in
    let its = c.pop_sequence-items-in-Append.result.1.items in
    let ty = c.pop_sequence-items-in-Append.result.0 in
    let x = plain c.pop-item.result in
    ok_map c.append.result _ _ c.append.ensures (λ r e. both_moved types c.args.op (map plain c.args.stack.now.items) Append (map plain c.pop_sequence-items-in-Append.new.stack.items) (map plain c.pop-item.new.stack.items) (items ty.0 (plain_all its)) x _ c.in-Append.is (put c.args.stack.now.items c.pop-item.new.stack.items c.pop-item.result c.pop-item.ensures) c.pop_sequence-items-in-Append.ensures refl
    (e ∙ ap (λ l. if nat_lt (length l) (capacity types ty.0) then gives (items ty.0 (vals (l ++ x ∷ []))) else faults Full) (sym (listed-plain its))))

pub returns-in_ok-split_off-in-Make : goal.returns-in_ok-split_off-in-Make
returns-in_ok-split_off-in-Make c =
    let types = c.args.types.now in
    let op = c.args.op in
    let stack = c.args.stack.now.items in
    let parts = c.in_ok-split_off-in-Make.field-0 in
    let size : c.arity.result ≡ arity types op = c.arity.ensures ∙ ap (arity types) (sym c.in-Make.is) in
    let k : c.len.result - c.arity.result ≡ length stack - arity types op = omega (arith, c.args.stack.now.ok.0, c.len.ensures, size) in
    let top = operands_on types op (map plain stack) in
    let t = subst (λ o. Takes types o top) c.in-Make.is c.requires.takes in
    let top-is : top ≡ map plain parts.items = sym (top_from types op stack _ k) ∙ ap (map plain) (sym c.in_ok-split_off-in-Make.ensures.tail) in
    (ap gives (plain-Tuple c.in-Make.ty parts) ∙ made_given types c.in-Make.ty parts.items top top-is t ∙ ap (λ o. operate types o top) (sym c.in-Make.is), below_of types op stack _ k c.split_off.new.self.items c.in_ok-split_off-in-Make.ensures.items)

pub returns-in-Some : goal.returns-in-Some
returns-in-Some c =
    let p = c.pop_fields.ensures in
    let fields = c.pop_fields.result.items in
    let j = c.in-Field.place in
    moved_as c.args.types.now c.args.op (map plain c.args.stack.now.items) (Field j) (map plain c.pop_fields.new.stack.items) (tuple p.0 (plain_all fields) ∷ []) _ c.in-Field.is p.1 refl
    (ap of_field c.in-Some.ensures ∙ ap (λ l. of_field (slice_get l j)) (sym (listed-plain fields)))
