-- The Euclidean quotient and its remainder.
use Rattle.std.proofs.Common.{◌≡◌, ◌≢◌, ℕ, zero, suc, ◌<◌, ◌+◌, ◌-◌, ◌*◌, ◌/◌, ◌%◌, ℤ, pos, negsuc, neg_ℤ, ◌+ℤ◌, ◌*ℤ◌, refl, sym, ap, ◌∙◌, arith}
use Rattle.std.specs.Prelude.{unsigned_abs}
use Rattle.std.specs.Int.{int_div_euclid, int_rem_euclid}
use Rattle.std.proofs.lemmas.Int.{ints}

negatives : (q n : ℕ) → neg_ℤ (pos q) *ℤ negsuc n ≡ pos (q * suc n)
negatives zero n = let e : 0 * suc n ≡ 0 = omega arith in ap (λ k. neg_ℤ (pos k)) e ∙ ap pos (sym e)
negatives (suc q) n = refl

pub parts_sum : (a b : ℤ) → b ≢ pos 0 → a ≡ (int_div_euclid a b *ℤ b) +ℤ int_rem_euclid a b
parts_sum a (pos zero) h = absurd (h refl)
parts_sum (pos a) (pos (suc n)) h = omega (arith, ints)
parts_sum (pos a) (negsuc n) h =
    let e : a ≡ a / suc n * suc n + a % suc n = omega arith in
    ap pos e ∙ sym (ap (λ z. z +ℤ pos (a % suc n)) (negatives (a / suc n) n))
parts_sum (negsuc a) (pos (suc n)) h = omega (arith, ints)
parts_sum (negsuc a) (negsuc n) h = omega (arith, ints)

pub rest_below : (a b : ℤ) → b ≢ pos 0 → (r : ℕ) × (int_rem_euclid a b ≡ pos r) × (r < unsigned_abs b)
rest_below a (pos zero) h = absurd (h refl)
rest_below (pos a) (pos (suc n)) h = (a % suc n, refl, omega arith)
rest_below (pos a) (negsuc n) h = (a % suc n, refl, omega arith)
rest_below (negsuc a) (pos (suc n)) h = (suc n - 1 - a % suc n, refl, omega arith)
rest_below (negsuc a) (negsuc n) h = (suc n - 1 - a % suc n, refl, omega arith)
