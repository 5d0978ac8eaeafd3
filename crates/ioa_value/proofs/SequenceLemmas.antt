-- What is left of a list of items, and what is found in it.
use Rattle.std.proofs.Common.{◌≡◌, ℕ, zero, suc, ◌+◌, ◌<◌, ◌==◌, Bool, true, false, cond, List, [], ◌∷◌, ◌++◌, length, map, take, drop, Option, Some, None, refl, sym, ap, ap₂, ◌∙◌, arith}
use Rattle.std.specs.Prelude.{nat_lt, is_some}
use Rattle.std.specs.List.{list_any, position_from, take-map, drop-map}
use Rattle.std.specs.Option.{option_map}
use Rattle.std.proofs.lemmas.Bool.Decides.{nat_tests}
use Rattle.std.proofs.lemmas.List.{length-map, map-append}
use Rattle.ioa_arithmetic.specs.declared.arithmetic.Fault.TheVariants.{Empty, Full}
use Rattle.ioa_value.specs.declared.value.Value.{Value}
use Rattle.ioa_value.specs.Plain.{Val, items, vals, plain, plain_all}
use Rattle.ioa_value.specs.Same.{same}
use Rattle.ioa_value.specs.Sequences.{last_item, all_but_first, all_but_last, without_first}
use Rattle.ioa_value.specs.Operators.{gives, faults, of_item, of_items}
use Rattle.ioa_value.proofs.PlainLemmas.{vals-plain}

-- ---- the last item

last-put : (ys : List Val) (z : Val) → last_item (ys ++ z ∷ []) ≡ Some z
last-put [] z = refl
last-put (y ∷ []) z = refl
last-put (y ∷ x ∷ xs) z = last-put (x ∷ xs) z

init-put : (ys : List Val) (z : Val) → all_but_last (ys ++ z ∷ []) ≡ Some ys
init-put [] z = refl
init-put (y ∷ []) z = refl
init-put (y ∷ x ∷ xs) z = ap (option_map (λ l. y ∷ l)) (init-put (x ∷ xs) z)

pub put : (old ys : List Value) (z : Value) → old ≡ ys ++ z ∷ [] → map plain old ≡ map plain ys ++ plain z ∷ []
put old ys z e = ap (map plain) e ∙ map-append plain ys (z ∷ [])

pub last_given : (old ys : List Value) (z : Value) → old ≡ ys ++ z ∷ [] → gives (plain z) ≡ of_item Empty (last_item (map plain old))
last_given old ys z e =
    sym (ap (λ l. of_item Empty (last_item l)) (put old ys z e) ∙ ap (of_item Empty) (last-put (map plain ys) (plain z)))

pub init_given : (s : ℕ) (old ys : List Value) (z : Value) → old ≡ ys ++ z ∷ [] → gives (items s (plain_all ys)) ≡ of_items s (all_but_last (map plain old))
init_given s old ys z e =
    ap (λ l. gives (items s l)) (sym (vals-plain ys))
    ∙ sym (ap (λ l. of_items s (all_but_last l)) (put old ys z e) ∙ ap (of_items s) (init-put (map plain ys) (plain z)))

-- ---- the first item

pub some_left : (len n : ℕ) → false ≡ (len == 0) → len ≡ n → 0 < n
some_left zero n e f = absurd (cc)
some_left (suc len) n e f = omega arith

pub tail_given : (s : ℕ) (old new : List Value) → 0 < length old → new ≡ take 0 old ++ drop 1 old → gives (items s (plain_all new)) ≡ of_items s (all_but_first (map plain old))
tail_given s [] new lt e = absurd (omega (arith, lt))
tail_given s (x ∷ xs) new lt e = ap (λ l. gives (items s (plain_all l))) e ∙ ap (λ l. gives (items s l)) (sym (vals-plain xs))

-- ---- one more item

pub append_given : (s most : ℕ) (old new : List Value) (item : Value) → length old < most → new ≡ old ++ item ∷ [] → gives (items s (plain_all new)) ≡ cond (nat_lt (length (map plain old)) most) (gives (items s (vals (map plain old ++ plain item ∷ [])))) (faults Full)
append_given s most old new item lt e =
    ap (λ l. gives (items s l)) (sym (vals-plain new) ∙ ap vals (put new old item e)) ∙ sym (ap (λ b. cond b (gives (items s (vals (map plain old ++ plain item ∷ [])))) (faults Full)) room)
  where
    long : length (map plain old) ≡ length old
    long = simp length-map

    room : nat_lt (length (map plain old)) most ≡ true
    room = grind (arith, nat_tests, long, lt)

-- ---- the place of an item

-- what the place from a number on says of the items, and of those without the first that equals x
abbrev Placed : Val → ℕ → List Val → Option ℕ → Type 0
Placed x i xs None = (list_any (same x) xs ≡ false) × (without_first x xs ≡ xs)
Placed x i xs (Some k) =
    (list_any (same x) xs ≡ true) × ((j : ℕ) × (k ≡ i + j) × (without_first x xs ≡ take j xs ++ drop (suc j) xs))

placed_from : (x : Val) (i : ℕ) (xs : List Val) → Placed x i xs (position_from (same x) i xs)
placed_from x i [] = (refl, refl)
placed_from x i (y ∷ ys) = go (same x y) refl (position_from (same x) (i + 1) ys) (placed_from x (i + 1) ys)
  where
    go : (b : Bool) → same x y ≡ b → (o : Option ℕ) → Placed x (i + 1) ys o → Placed x i (y ∷ ys) (cond (same x y) (Some i) o)
    go true e o p =
        rw e ((rw e refl), (0, omega arith, rw e refl))
    go false e None p = rw e ((rw e p.0), (rw e (ap (λ l. y ∷ l) p.1)))
    go false e (Some k) p =
        let q : (j : ℕ) × (k ≡ i + 1 + j) × (without_first x ys ≡ take j ys ++ drop (suc j) ys) = p.1 in
        rw e ((rw e p.0), (suc q.0, omega arith, rw e (ap (λ l. y ∷ l) q.2)))

pub without_absent : (x : Val) (xs : List Val) → position_from (same x) 0 xs ≡ None → without_first x xs ≡ xs
without_absent x xs e = go (position_from (same x) 0 xs) e (placed_from x 0 xs)
  where
    go : (o : Option ℕ) → o ≡ None → Placed x 0 xs o → without_first x xs ≡ xs
    go None e p = p.1
    go (Some k) e p = absurd (cc)

pub without_placed : (x : Val) (xs : List Val) (k : ℕ) → position_from (same x) 0 xs ≡ Some k → without_first x xs ≡ take k xs ++ drop (suc k) xs
without_placed x xs k e = go (position_from (same x) 0 xs) e (placed_from x 0 xs)
  where
    go : (o : Option ℕ) → o ≡ Some k → Placed x 0 xs o → without_first x xs ≡ take k xs ++ drop (suc k) xs
    go None e p = absurd (cc)
    go (Some m) e p =
        let q : (j : ℕ) × (m ≡ 0 + j) × (without_first x xs ≡ take j xs ++ drop (suc j) xs) = p.1 in
        let found : m ≡ k = cc in
        let same_place : q.0 ≡ k = omega (arith, q.1, found) in
        q.2 ∙ ap (λ j. take j xs ++ drop (suc j) xs) same_place

pub any_placed : (x : Val) (xs : List Val) → is_some (position_from (same x) 0 xs) ≡ list_any (same x) xs
any_placed x xs = go (position_from (same x) 0 xs) (placed_from x 0 xs)
  where
    go : (o : Option ℕ) → Placed x 0 xs o → is_some o ≡ list_any (same x) xs
    go None p = sym p.0
    go (Some k) p = sym p.0

-- the items without one, as the code has them
pub placed_given : (x : Val) (old lent new : List Value) (k : ℕ) → lent ≡ old → position_from (same x) 0 (map plain lent) ≡ Some k → new ≡ take k old ++ drop (suc k) old → plain_all new ≡ vals (without_first x (map plain old))
placed_given x old lent new k e f g =
    let p = without_placed x (map plain old) k (ap (λ l. position_from (same x) 0 (map plain l)) (sym e) ∙ f) in
    let moved : map plain new ≡ take k (map plain old) ++ drop (suc k) (map plain old) = ap (map plain) g ∙ map-append plain (take k old) (drop (suc k) old) ∙ ap₂ (λ l r. l ++ r) (sym (take-map plain k old)) (sym (drop-map plain (suc k) old)) in
    sym (vals-plain new) ∙ ap vals (moved ∙ sym p)

pub absent_given : (x : Val) (old lent : List Value) → lent ≡ old → position_from (same x) 0 (map plain lent) ≡ None → plain_all old ≡ vals (without_first x (map plain old))
absent_given x old lent e f =
    sym (vals-plain old) ∙ ap vals (sym (without_absent x (map plain old) (ap (λ l. position_from (same x) 0 (map plain l)) (sym e) ∙ f)))
