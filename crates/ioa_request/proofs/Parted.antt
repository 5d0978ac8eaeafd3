-- Where the first part of a text ends.
use Rattle.std.proofs.Common.{◌≡◌, ℕ, zero, suc, ◌<◌, ◌==◌, true, false, List, [], ◌∷◌, length, Some, None, refl, ap, arith, take, drop, get_or}
use Rattle.ioa_request.specs.Fields.{before, behind}

-- where the first part ends
pub part_to : (s : ℕ) (xs : List ℕ) (i : ℕ) → i < length xs → ((k : ℕ) → k < i → (get_or xs k 0 == s) ≡ false) → (get_or xs i 0 == s) ≡ true
    → (take i xs ≡ before s xs) × (Some (drop (suc i) xs) ≡ behind s xs)
part_to s [] i l fails ends = absurd (omega arith)
part_to s (x ∷ xs) zero l fails ends = rw ends (refl, refl)
part_to s (x ∷ xs) (suc i) l fails ends =
    let e : (x == s) ≡ false = fails zero (omega arith) in
    let k = part_to s xs i (omega arith) (λ k h. fails (suc k) (omega arith)) ends in
    rw e (ap (λ ys. x ∷ ys) k.0, k.1)

pub whole_part : (s : ℕ) (xs : List ℕ) → ((k : ℕ) → k < length xs → (get_or xs k 0 == s) ≡ false) → (xs ≡ before s xs) × (None ≡ behind s xs)
whole_part s [] fails = (refl, refl)
whole_part s (x ∷ xs) fails =
    let e : (x == s) ≡ false = fails zero (omega arith) in
    let k = whole_part s xs (λ k h. fails (suc k) (omega arith)) in
    rw e (ap (λ ys. x ∷ ys) k.0, k.1)
