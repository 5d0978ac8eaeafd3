-- Operands on top of a stack, and what is below them.
use Rattle.std.proofs.Common.{◌≡◌, ℕ, zero, suc, ◌<◌, ◌-◌, List, [], ◌∷◌, ◌++◌, length, map, take, drop, None, cond, IfOk, Result, Ok, Err, refl, sym, ap, ap₂, ◌∙◌, arith}
use Rattle.std.proofs.lemmas.List.{length-map, length-drop, length-append, take-append-drop}
use Rattle.std.proofs.Math.Seq.{take-length}
use Rattle.std.specs.List.{take-map, drop-map}
use Rattle.std.specs.Prelude.{slice_get}
use Rattle.ioa_value.specs.declared.operator.Op.{Op}
use Rattle.ioa_value.specs.declared.operator.Op.TheVariants.{Make}
use Rattle.ioa_value.specs.declared.value.Ty.{Ty}
use Rattle.ioa_value.specs.declared.value.Value.{Value}
use Rattle.ioa_value.specs.Plain.{Val, Vals, tuple, vals, count, plain, plain_all}
use Rattle.ioa_value.specs.Table.{Table, field_types}
use Rattle.ioa_value.specs.Operators.{Answer, gives, nothing, operate, arity, operands_on, below_operands, GoOff}
use Rattle.ioa_value.proofs.PlainLemmas.{vals-plain, count-plain_all}
use Rattle.ioa_value.proofs.SameLemmas.{equal}

-- the list, up to its last item, which two spellings of it share
pub ends_same : (xs ys : List Val) (a b : Val) → xs ++ a ∷ [] ≡ ys ++ b ∷ [] → xs ≡ ys
ends_same [] [] a b e = refl
ends_same [] (y ∷ []) a b e = absurd (cc)
ends_same [] (y ∷ z ∷ ys) a b e = absurd (cc)
ends_same (x ∷ []) [] a b e = absurd (cc)
ends_same (x ∷ z ∷ xs) [] a b e = absurd (cc)
ends_same (x ∷ xs) (y ∷ ys) a b e =
    let h : x ≡ y = cc in
    let t : xs ++ a ∷ [] ≡ ys ++ b ∷ [] = cc in
    ap₂ (λ p l. p ∷ l) h (ends_same xs ys a b t)

pub over : (b : List Val) (x y : Val) → (b ++ x ∷ []) ++ y ∷ [] ≡ b ++ x ∷ y ∷ []
over [] x y = refl
over (z ∷ zs) x y = ap (λ l. z ∷ l) (over zs x y)

drop_front : (xs ys : List Val) → drop (length xs) (xs ++ ys) ≡ ys
drop_front [] ys = refl
drop_front (x ∷ xs) ys = drop_front xs ys

take_front : (xs ys : List Val) → take (length xs) (xs ++ ys) ≡ xs
take_front [] ys = refl
take_front (x ∷ xs) ys = ap (λ l. x ∷ l) (take_front xs ys)

module _ (types : Table) (op : Op) (stack : List Val) where
  -- the operands as they are known, at the end of the stack
  pub topped : (vs : List Val) → operands_on types op stack ≡ vs → stack ≡ below_operands types op stack ++ vs
  topped vs e =
      sym (take-append-drop (length stack - arity types op) stack) ∙ ap (λ l. below_operands types op stack ++ l) e

  -- what is below an operand, where it is the last of two
  pub under : (new : List Val) (v x y : Val) → operands_on types op stack ≡ x ∷ y ∷ [] → stack ≡ new ++ v ∷ [] → new ≡ below_operands types op stack ++ x ∷ []
  under new v x y e f =
      let b = below_operands types op stack in
      ends_same new (b ++ x ∷ []) v y (sym f ∙ topped (x ∷ y ∷ []) e ∙ sym (over b x y))

  module _ (new ops : List Val) (e : stack ≡ new ++ ops) (n : length ops ≡ arity types op) where
    left : length stack - arity types op ≡ length new
    left = omega (arith, ap length e, length-append new ops)

    -- the operands are what went off the stack
    pub top_is : operands_on types op stack ≡ ops
    top_is = ap₂ (λ i l. drop i l) left e ∙ drop_front new ops

    below_is : below_operands types op stack ≡ new
    below_is = ap₂ (λ i l. take i l) left e ∙ take_front new ops

  -- an answer for the operands that went off the stack is the operator's
  pub moved_as : (o : Op) (new ops : List Val) (a : Answer) → op ≡ o → stack ≡ new ++ ops → length ops ≡ arity types o → a ≡ operate types o ops → GoOff types op stack new a
  moved_as o new ops a is e n g =
      let size : length ops ≡ arity types op = n ∙ ap (arity types) (sym is) in
      (g ∙ ap (λ x. operate types x ops) (sym is) ∙ ap (operate types op) (sym (top_is new ops e size)), sym (below_is new ops e size))

  -- and so where two went, one after the other
  pub both_moved : (o : Op) (new once : List Val) (x y : Val) (a : Answer) → op ≡ o → stack ≡ once ++ y ∷ [] → once ≡ new ++ x ∷ [] → 2 ≡ arity types o → a ≡ operate types o (x ∷ y ∷ []) → GoOff types op stack new a
  both_moved o new once x y a is e f n g =
      moved_as o new (x ∷ y ∷ []) a is (e ∙ ap (λ l. l ++ y ∷ []) f ∙ over new x y) n g

-- ---- operands as the end of a slice

module _ (types : Table) (op : Op) (stack : List Value) (k : ℕ) (at : k ≡ length stack - arity types op) where
  from : k ≡ length (map plain stack) - arity types op
  from = at ∙ ap (λ n. n - arity types op) (sym (length-map stack plain))

  pub top_from : map plain (drop k stack) ≡ operands_on types op (map plain stack)
  top_from = sym (drop-map plain k stack) ∙ ap (λ m. drop m (map plain stack)) from

  pub top_of : (d : List Value) → d ≡ stack → map plain (take (length d - k) (drop k d)) ≡ operands_on types op (map plain stack)
  top_of d e =
      ap (λ l. map plain (take (length l - k) (drop k l))) e
      ∙ ap (λ m. map plain (take m (drop k stack))) (sym (length-drop k stack))
      ∙ ap (map plain) (take-length (drop k stack))
      ∙ top_from

  pub below_of : (new : List Value) → new ≡ take k stack → map plain new ≡ below_operands types op (map plain stack)
  below_of new e = ap (map plain) e ∙ sym (take-map plain k stack) ∙ ap (λ m. take m (map plain stack)) from

-- ---- tuples

pub made_given : (types : Table) (ty : Ty) (ops : List Value) (top : List Val) → top ≡ map plain ops → length top ≡ length (field_types types ty.0) → gives (tuple ty.0 (plain_all ops)) ≡ operate types (Make ty) top
made_given types ty ops top e n =
    ap (λ l. gives (tuple ty.0 l)) (sym (vals-plain ops) ∙ ap vals (sym e))
    ∙ sym (ap (λ b. cond b (gives (tuple ty.0 (vals top))) nothing) (equal _ _ n))

-- a field that is there is found
pub field_found : (its : List Value) (j : ℕ) (s t : ℕ) (xs : Vals) (vs : List Val) → vs ≡ tuple s (plain_all its) ∷ [] → vs ≡ tuple t xs ∷ [] → j < count xs → None ≡ slice_get (map plain its) j → ⊥
field_found its j s t xs vs e f lt h =
    let both : tuple s (plain_all its) ∷ [] ≡ tuple t xs ∷ [] = sym e ∙ f in
    let same : plain_all its ≡ xs = cc in
    let long : count xs ≡ length its = ap count (sym same) ∙ count-plain_all its in
    let within : j < length its = omega (arith, lt, long) in
    missing its j within h
  where
    missing : (l : List Value) (i : ℕ) → i < length l → None ≡ slice_get (map plain l) i → ⊥
    missing [] i lt e = omega (arith, lt)
    missing (x ∷ l) zero lt e = absurd (cc)
    missing (x ∷ l) (suc i) lt e = missing l i (omega (arith, lt)) e

-- what holds of an answer, where more follows of it
pub ok_map : {A E : Type 0} (r : Result A E) (P Q : A → Type 0) → IfOk r P → ((a : A) → P a → Q a) → IfOk r Q
ok_map (Ok a) P Q h f = f a h
ok_map (Err e) P Q h f = h
