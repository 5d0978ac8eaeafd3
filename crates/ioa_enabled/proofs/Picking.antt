-- Combinations by number, of the values that are shown.
use Rattle.std.proofs.Common.{◌≡◌, ◌≢◌, ℕ, zero, suc, ◌+◌, ◌*◌, ◌<◌, ◌≤◌, ◌/◌, ◌%◌, min, Bool, true, false, cond, List, [], ◌∷◌, length, map, get_or, Option, Some, None, refl, sym, ap, ap₂, subst, ◌∙◌, inl, inr, ◌⊎◌, arith}
use Rattle.std.specs.Prelude.{nat_lt, slice_get}
use Rattle.std.specs.List.{range_with_len}
use Rattle.std.proofs.Math.Nat.{div-eq_of_lt, div-le_self, div-lt_iff_lt-mul, min-eq_left, min-eq_right, mod-eq_of_lt, mod-lt, mul_comm}
use Rattle.std.proofs.lemmas.Bool.{cases_lt}
use Rattle.std.proofs.lemmas.Bool.Decides.{nat_tests}
use Rattle.std.proofs.lemmas.List.FromFn.{get_or-map-range_with_len, length-map-range_with_len}
use Rattle.std.proofs.lemmas.Option.{slice_get-get_or}
use Rattle.ioa_value.specs.Plain.{Val}
use Rattle.ioa_enabled.specs.Offers.{picked}
use Rattle.ioa_enabled.specs.Sampled.{both, shown}
use Rattle.ioa_enabled.specs.Ways.{Values, combination, total}

-- a value by number
pub range_at : {X : Type 0} (f : ℕ → X) (n k : ℕ) → k < n → slice_get (map f (range_with_len 0 n)) k ≡ Some (f k)
range_at f n k less =
    let long : length (map f (range_with_len 0 n)) ≡ n = length-map-range_with_len f 0 n in
    let within : k < length (map f (range_with_len 0 n)) = omega (arith, long, less) in
    let here : 0 + k ≡ k = omega arith in
    slice_get-get_or (map f (range_with_len 0 n)) k (f k) within ∙ ap Some (get_or-map-range_with_len f 0 n k k (f k) less here)

no_times : (n : ℕ) → 0 * n ≡ 0
no_times n = omega arith

-- the combination, if its number is below how many there are
abbrev pub numbered : List Values → ℕ → Option (List Val)
numbered cs k = cond (nat_lt k (total cs)) (Some (combination cs k)) None

pub below_test : (a b : ℕ) → nat_lt a b ≡ true → a < b
below_test a b e = grind (arith, nat_tests)

pub above_test : (a b : ℕ) → nat_lt a b ≡ false → b ≤ a
above_test a b e = grind (arith, nat_tests)

none_below : (k : ℕ) → nat_lt k 0 ≡ false
none_below k = grind (arith, nat_tests)

none_more : (k : ℕ) → nat_lt (suc k) 1 ≡ false
none_more k = grind (arith, nat_tests)

lesser : (a b c d : ℕ) → (a < b → c < d) → (c < d → a < b) → nat_lt a b ≡ nat_lt c d
lesser a b c d there back = go (nat_lt a b) refl (nat_lt c d) refl
  where
    go : (x : Bool) → nat_lt a b ≡ x → (y : Bool) → nat_lt c d ≡ y → x ≡ y
    go true e true f = refl
    go false e false f = refl
    go true e false f =
        let l = there (below_test a b e) in
        let m = above_test c d f in
        absurd (omega (arith, l, m))
    go false e true f =
        let l = back (below_test c d f) in
        let m = above_test a b e in
        absurd (omega (arith, l, m))

-- as many are shown as there are, or more than the number
shown_count : (most count k : ℕ) → 0 < count → k ≤ most → (k % min count (most + 1) ≡ k % count) × (k / min count (most + 1) ≡ k / count) × (0 < min count (most + 1))
shown_count most count k there less = go (cases_lt (most + 1) count)
  where
    go : (most + 1 < count) ⊎ (count ≤ most + 1) → (k % min count (most + 1) ≡ k % count) × (k / min count (most + 1) ≡ k / count) × (0 < min count (most + 1))
    go (inr few) =
        let same : min count (most + 1) ≡ count = min-eq_left few in
        (ap (λ n. k % n) same, ap (λ n. k / n) same, subst (λ n. 0 < n) (sym same) there)
    go (inl many) =
        let more : most + 1 ≤ count = omega arith in
        let same : min count (most + 1) ≡ most + 1 = min-eq_right more in
        let first : k < most + 1 = omega arith in
        let second : k < count = omega arith in
        let one : 0 < most + 1 = omega arith in (
          ap (λ n. k % n) same ∙ mod-eq_of_lt first ∙ sym (mod-eq_of_lt second),
          ap (λ n. k / n) same ∙ div-eq_of_lt first ∙ sym (div-eq_of_lt second),
          subst (λ n. 0 < n) (sym same) one,
        )

joined : (b : Bool) (v : Val) (vs : List Val) → both (Some v) (cond b (Some vs) None) ≡ cond b (Some (v ∷ vs)) None
joined true v vs = refl
joined false v vs = refl

pub picks : (most : ℕ) (cs : List Values) (k : ℕ) → k ≤ most → picked (map (shown (most + 1)) cs) k ≡ numbered cs k
picks most [] zero less = refl
picks most [] (suc k) less = sym (ap (λ b. cond b (Some (combination [] (suc k))) None) (none_more k))
picks most (c ∷ cs) k less = go (λ j few. picks most cs j few) c.count refl
  where
    n : ℕ
    n = min c.count (most + 1)

    column : List Val
    column = shown (most + 1) c

    long : length column ≡ n
    long = length-map-range_with_len c.value 0 n

    go : ((j : ℕ) → j ≤ most → picked (map (shown (most + 1)) cs) j ≡ numbered cs j) → (m : ℕ) → c.count ≡ m → picked (map (shown (most + 1)) (c ∷ cs)) k ≡ numbered (c ∷ cs) k
    go more zero e =
        let low : zero ≤ most + 1 = omega arith in
        let none : column ≡ [] = ap (λ j. map c.value (range_with_len 0 j)) (ap (λ j. min j (most + 1)) e ∙ min-eq_left low) in
        let left : picked (map (shown (most + 1)) (c ∷ cs)) k ≡ None = ap (λ vs. picked (vs ∷ map (shown (most + 1)) cs) k) none in
        let product : c.count * total cs ≡ 0 = ap (λ j. j * total cs) e ∙ no_times (total cs) in
        let right : numbered (c ∷ cs) k ≡ None = ap (λ b. cond b (Some (combination (c ∷ cs) k)) None) (ap (nat_lt k) product ∙ none_below k) in
        left ∙ sym right
    go more (suc m) e =
        let there : 0 < c.count = omega arith in
        let counts = shown_count most c.count k there less in
        let value : slice_get column (k % length column) ≡ Some (c.value (k % c.count)) =
        ap (λ j. slice_get column (k % j)) long ∙ range_at c.value n (k % n) (mod-lt k counts.2) ∙ ap (λ j. Some (c.value j)) counts.0 in
        let rest : k / length column ≡ k / c.count = ap (λ j. k / j) long ∙ counts.1 in
        let fewer : k / c.count ≤ most = let q = div-le_self k c.count in omega arith in
        let other : picked (map (shown (most + 1)) cs) (k / length column) ≡ numbered cs (k / c.count) =
        ap (picked (map (shown (most + 1)) cs)) rest ∙ more (k / c.count) fewer in
        let divided = div-lt_iff_lt-mul {k = c.count} {x = k} {y = total cs} there in
        let order : total cs * c.count ≡ c.count * total cs = mul_comm (total cs) c.count in
        let tests : nat_lt (k / c.count) (total cs) ≡ nat_lt k (c.count * total cs) =
        lesser (k / c.count) (total cs) k (c.count * total cs) (λ l. subst (λ j. k < j) order (divided.0 l)) (λ l. divided.1 (subst (λ j. k < j) (sym order) l)) in
        ap₂ both value other
        ∙ joined (nat_lt (k / c.count) (total cs)) (c.value (k % c.count)) (combination cs (k / c.count))
        ∙ ap (λ b. cond b (Some (combination (c ∷ cs) k)) None) tests
