-- What an operator gives a value or a fault of are its operands.
use Rattle.std.proofs.Common.{◌≡◌, ◌≢◌, ℕ, ◌<◌, ℤ, Bool, true, false, cond, if◌then◌else◌, ◌==◌, List, [], ◌∷◌, ◌++◌, length, pos, Option, Some, None, refl, ap, subst, ◌∙◌, arith}
use Rattle.std.specs.Prelude.{nat_lt, slice_get}
use Rattle.std.specs.List.{list_any}
use Rattle.std.proofs.lemmas.Option.{slice_get_within}
use Rattle.ioa_arithmetic.specs.declared.arithmetic.Fault.TheVariants.{Empty, OutOfRange, Full}
use Rattle.ioa_value.specs.declared.operator.Op.{Op}
use Rattle.ioa_value.specs.declared.operator.Op.TheVariants.{Neg, Add, Sub, Mul, Div, Mod, Lt, Le, Gt, Ge, Not, Eq, Ne, Len, Head, Tail, Last, Init, Append, At, Member, Without, Make, Field}
use Rattle.ioa_value.specs.Plain.{Val, Vals, truth, num, name, tuple, items, vals, listed, count}
use Rattle.ioa_value.specs.Table.{Table, capacity, field_types}
use Rattle.ioa_value.specs.Typing.{own}
use Rattle.ioa_value.specs.Operators.{Answer, nothing, gives, with_number, with_truth, with_items, with_fields, on_number, on_numbers, on_truth, on_alike, on_sequence, on_sequence_and_item, on_sequence_and_number, on_item_and_sequence, on_tuple, of_item, of_items, of_field, faults, operate, IsSequence, Takes}
use Rattle.ioa_value.specs.Same.{same}
use Rattle.ioa_value.specs.Sequences.{first_item, last_item, all_but_first, all_but_last, item_at, without_first}
use Rattle.ioa_value.proofs.PlainLemmas.{length-listed}
use Rattle.ioa_value.proofs.SameLemmas.{equal_numbers}

with_number_takes : (f : ℤ → Answer) (v : Val) → with_number f v ≢ nothing → (x : ℤ) × (v ≡ num x)
with_number_takes f (num z) h = (z, refl)
with_number_takes f (truth b) h = absurd (h refl)
with_number_takes f (name ty n) h = absurd (h refl)
with_number_takes f (tuple ty vs) h = absurd (h refl)
with_number_takes f (items ty vs) h = absurd (h refl)

with_truth_takes : (f : Bool → Answer) (v : Val) → with_truth f v ≢ nothing → (b : Bool) × (v ≡ truth b)
with_truth_takes f (truth b) h = (b, refl)
with_truth_takes f (num z) h = absurd (h refl)
with_truth_takes f (name ty n) h = absurd (h refl)
with_truth_takes f (tuple ty vs) h = absurd (h refl)
with_truth_takes f (items ty vs) h = absurd (h refl)

number_takes : (f : ℤ → Answer) (vs : List Val) → on_number f vs ≢ nothing → (x : ℤ) × (vs ≡ num x ∷ [])
number_takes f [] h = absurd (h refl)
number_takes f (v ∷ w ∷ vs) h = absurd (h refl)
number_takes f (v ∷ []) h = let p = with_number_takes f v h in (p.0, ap (λ x. x ∷ []) p.1)

numbers_take : (f : ℤ → ℤ → Answer) (vs : List Val) → on_numbers f vs ≢ nothing → (x : ℤ) × (y : ℤ) × (vs ≡ num x ∷ num y ∷ [])
numbers_take f [] h = absurd (h refl)
numbers_take f (v ∷ []) h = absurd (h refl)
numbers_take f (v ∷ w ∷ u ∷ vs) h = absurd (h refl)
numbers_take f (v ∷ w ∷ []) h =
    let p = with_number_takes (λ x. with_number (f x) w) v h in
    let h' : with_number (f p.0) w ≢ nothing = subst {A = Val} (λ x. with_number (λ a. with_number (f a) w) x ≢ nothing) p.1 h in
    let q = with_number_takes (f p.0) w h' in
    (p.0, q.0, ap (λ x. x ∷ w ∷ []) p.1 ∙ ap (λ y. num p.0 ∷ y ∷ []) q.1)

truth_takes : (f : Bool → Answer) (vs : List Val) → on_truth f vs ≢ nothing → (b : Bool) × (vs ≡ truth b ∷ [])
truth_takes f [] h = absurd (h refl)
truth_takes f (v ∷ w ∷ vs) h = absurd (h refl)
truth_takes f (v ∷ []) h = let p = with_truth_takes f v h in (p.0, ap (λ x. x ∷ []) p.1)

alike_take : (f : Val → Val → Answer) (vs : List Val) → on_alike f vs ≢ nothing → (x : Val) × (y : Val) × (own x ≡ own y) × (vs ≡ x ∷ y ∷ [])
alike_take f [] h = absurd (h refl)
alike_take f (v ∷ []) h = absurd (h refl)
alike_take f (v ∷ w ∷ u ∷ vs) h = absurd (h refl)
alike_take f (v ∷ w ∷ []) h = (v, w, go (own v == own w) refl h, refl)
  where
    go : (b : Bool) → (own v == own w) ≡ b → cond b (f v w) nothing ≢ nothing → own v ≡ own w
    go true e h = equal_numbers (own v) (own w) e
    go false e h = absurd (h refl)

-- ---- sequences and tuples

with_items_takes : (f : ℕ → List Val → Answer) (v : Val) → with_items f v ≢ nothing → (s : ℕ) × (xs : Vals) × (v ≡ items s xs)
with_items_takes f (items s xs) h = (s, xs, refl)
with_items_takes f (truth b) h = absurd (h refl)
with_items_takes f (num z) h = absurd (h refl)
with_items_takes f (name ty n) h = absurd (h refl)
with_items_takes f (tuple ty vs) h = absurd (h refl)

with_fields_takes : (f : List Val → Answer) (v : Val) → with_fields f v ≢ nothing → (s : ℕ) × (xs : Vals) × (v ≡ tuple s xs) × (f (listed xs) ≢ nothing)
with_fields_takes f (tuple s xs) h = (s, xs, refl, h)
with_fields_takes f (truth b) h = absurd (h refl)
with_fields_takes f (num z) h = absurd (h refl)
with_fields_takes f (name ty n) h = absurd (h refl)
with_fields_takes f (items ty vs) h = absurd (h refl)

sequence_takes : (f : ℕ → List Val → Answer) (vs : List Val) → on_sequence f vs ≢ nothing → IsSequence vs
sequence_takes f [] h = absurd (h refl)
sequence_takes f (v ∷ w ∷ vs) h = absurd (h refl)
sequence_takes f (v ∷ []) h = let p = with_items_takes f v h in (p.0, p.1, ap (λ x. x ∷ []) p.2)

item_takes : (f : ℕ → List Val → Val → Answer) (vs : List Val) → on_sequence_and_item f vs ≢ nothing → (s : ℕ) × (xs : Vals) × (x : Val) × (vs ≡ items s xs ∷ x ∷ [])
item_takes f [] h = absurd (h refl)
item_takes f (v ∷ []) h = absurd (h refl)
item_takes f (v ∷ w ∷ u ∷ vs) h = absurd (h refl)
item_takes f (v ∷ w ∷ []) h =
    let p = with_items_takes (λ s xs. f s xs w) v h in (p.0, p.1, w, ap (λ x. x ∷ w ∷ []) p.2)

index_takes : (f : List Val → ℤ → Answer) (vs : List Val) → on_sequence_and_number f vs ≢ nothing → (s : ℕ) × (xs : Vals) × (z : ℤ) × (vs ≡ items s xs ∷ num z ∷ [])
index_takes f [] h = absurd (h refl)
index_takes f (v ∷ []) h = absurd (h refl)
index_takes f (v ∷ w ∷ u ∷ vs) h = absurd (h refl)
index_takes f (v ∷ w ∷ []) h =
    let p = with_items_takes (λ s xs. with_number (f xs) w) v h in
    let h' : with_number (f (listed p.1)) w ≢ nothing = subst {A = Val} (λ x. with_items (λ s xs. with_number (f xs) w) x ≢ nothing) p.2 h in
    let q = with_number_takes (f (listed p.1)) w h' in
    (p.0, p.1, q.0, ap (λ x. x ∷ w ∷ []) p.2 ∙ ap (λ y. items p.0 p.1 ∷ y ∷ []) q.1)

member_takes : (f : Val → List Val → Answer) (vs : List Val) → on_item_and_sequence f vs ≢ nothing → (x : Val) × (s : ℕ) × (xs : Vals) × (vs ≡ x ∷ items s xs ∷ [])
member_takes f [] h = absurd (h refl)
member_takes f (v ∷ []) h = absurd (h refl)
member_takes f (v ∷ w ∷ u ∷ vs) h = absurd (h refl)
member_takes f (v ∷ w ∷ []) h =
    let p = with_items_takes (λ s xs. f v xs) w h in (v, p.0, p.1, ap (λ x. v ∷ x ∷ []) p.2)

make_takes : (a : Answer) (m n : ℕ) → cond (m == n) a nothing ≢ nothing → m ≡ n
make_takes a m n h = go (m == n) refl h
  where
    go : (b : Bool) → (m == n) ≡ b → cond b a nothing ≢ nothing → m ≡ n
    go true e h = equal_numbers m n e
    go false e h = absurd (h refl)

field_takes : (j : ℕ) (vs : List Val) → on_tuple (λ xs. of_field (slice_get xs j)) vs ≢ nothing → (s : ℕ) × (xs : Vals) × (j < count xs) × (vs ≡ tuple s xs ∷ [])
field_takes j [] h = absurd (h refl)
field_takes j (v ∷ w ∷ vs) h = absurd (h refl)
field_takes j (v ∷ []) h =
    let p = with_fields_takes (λ xs. of_field (slice_get xs j)) v h in
    (p.0, p.1, within p.1 (slice_get (listed p.1) j) refl p.3, ap (λ x. x ∷ []) p.2)
  where
    within : (xs : Vals) (o : Option Val) → slice_get (listed xs) j ≡ o → of_field o ≢ nothing → j < count xs
    within xs (Some w) e h =
        let lt : j < length (listed xs) = slice_get_within (listed xs) j w e in omega (arith, lt, length-listed xs)
    within xs None e h = absurd (h refl)

pub operate_takes : (types : Table) (op : Op) (vs : List Val) → operate types op vs ≢ nothing → Takes types op vs
operate_takes types Neg vs h = number_takes _ vs h
operate_takes types Add vs h = numbers_take _ vs h
operate_takes types Sub vs h = numbers_take _ vs h
operate_takes types Mul vs h = numbers_take _ vs h
operate_takes types Div vs h = numbers_take _ vs h
operate_takes types Mod vs h = numbers_take _ vs h
operate_takes types Lt vs h = numbers_take _ vs h
operate_takes types Le vs h = numbers_take _ vs h
operate_takes types Gt vs h = numbers_take _ vs h
operate_takes types Ge vs h = numbers_take _ vs h
operate_takes types Not vs h = truth_takes _ vs h
operate_takes types Eq vs h = alike_take _ vs h
operate_takes types Ne vs h = alike_take _ vs h
operate_takes types Len vs h = sequence_takes (λ s xs. gives (num (pos (length xs)))) vs h
operate_takes types Head vs h = sequence_takes (λ s xs. of_item Empty (first_item xs)) vs h
operate_takes types Tail vs h = sequence_takes (λ s xs. of_items s (all_but_first xs)) vs h
operate_takes types Last vs h = sequence_takes (λ s xs. of_item Empty (last_item xs)) vs h
operate_takes types Init vs h = sequence_takes (λ s xs. of_items s (all_but_last xs)) vs h
operate_takes types Append vs h = item_takes (λ s xs x. if nat_lt (length xs) (capacity types s) then gives (items s (vals (xs ++ x ∷ []))) else faults Full) vs h
operate_takes types At vs h = index_takes (λ xs z. of_item OutOfRange (item_at xs z)) vs h
operate_takes types Member vs h = member_takes (λ x xs. gives (truth (list_any (same x) xs))) vs h
operate_takes types Without vs h = item_takes (λ s xs x. gives (items s (vals (without_first x xs)))) vs h
operate_takes types (Make s) vs h = make_takes (gives (tuple s.0 (vals vs))) (length vs) (length (field_types types s.0)) h
operate_takes types (Field j) vs h = field_takes j vs h
