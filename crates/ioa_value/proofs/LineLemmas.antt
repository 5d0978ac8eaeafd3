-- A text's first line, and what comes after its LF.
use Rattle.std.proofs.Common.{◌≡◌, ℕ, Bool, ◌<◌, true, false, ◌==◌, List, [], ◌∷◌, ◌++◌, length, get_or, take, drop, refl, ap, zero, suc, arith}
use Rattle.std.proofs.lemmas.Bool.Decides.{nat_tests}
use Rattle.ioa_value.specs.Lists.{first_line, after_line}

-- the first LF stands here
pub ended_at : (xs : List ℕ) (i : ℕ) → i < length xs → ((k : ℕ) → k < i → (get_or xs k 0 == 10) ≡ false)
    → (get_or xs i 0 == 10) ≡ true → (take i xs ≡ first_line xs) × (xs ≡ take i xs ++ 10 ∷ drop (suc i) xs)
ended_at [] i l fails ends = absurd (omega arith)
ended_at (x ∷ xs) zero l fails ends =
    let e : x ≡ 10 = grind (arith, nat_tests, ends) in
    rw e (refl, refl)
ended_at (x ∷ xs) (suc i) l fails ends =
    let e : (x == 10) ≡ false = fails zero (omega arith) in
    let k = ended_at xs i (omega arith) (λ k h. fails (suc k) (omega arith)) ends in
    rw e (ap (λ ys. x ∷ ys) k.0, ap (λ ys. x ∷ ys) k.1)

-- there is no LF
pub not_ended : (xs : List ℕ) → ((k : ℕ) → k < length xs → (get_or xs k 0 == 10) ≡ false) → xs ≡ first_line xs
not_ended [] fails = refl
not_ended (x ∷ xs) fails =
    let e : (x == 10) ≡ false = fails zero (omega arith) in
    rw e (ap (λ ys. x ∷ ys) (not_ended xs (λ k h. fails (suc k) (omega arith))))

ended_by : (x : ℕ) (xs rest : List ℕ) (t : Bool) → (x == 10) ≡ t → x ∷ xs ≡ first_line (x ∷ xs) ++ 10 ∷ rest
    → (xs ≡ first_line xs ++ 10 ∷ rest → rest ≡ after_line xs) → rest ≡ after_line (x ∷ xs)
ended_by x xs rest true h e more = let k : x ∷ xs ≡ 10 ∷ rest = rw h at e in rw h (cc)
ended_by x xs rest false h e more = let k : x ∷ xs ≡ x ∷ (first_line xs ++ 10 ∷ rest) = rw h at e in rw h (more (cc))

pub after_ended : (xs rest : List ℕ) → xs ≡ first_line xs ++ 10 ∷ rest → rest ≡ after_line xs
after_ended [] rest e = absurd (cc)
after_ended (x ∷ xs) rest e = ended_by x xs rest (x == 10) refl e (after_ended xs rest)

none_by : (x : ℕ) (xs : List ℕ) (t : Bool) → (x == 10) ≡ t → x ∷ xs ≡ first_line (x ∷ xs) → (xs ≡ first_line xs → [] ≡ after_line xs) → [] ≡ after_line (x ∷ xs)
none_by x xs true h e more = let k : x ∷ xs ≡ [] = rw h at e in absurd (cc)
none_by x xs false h e more = let k : x ∷ xs ≡ x ∷ first_line xs = rw h at e in rw h (more (cc))

pub after_none : (xs : List ℕ) → xs ≡ first_line xs → [] ≡ after_line xs
after_none [] e = refl
after_none (x ∷ xs) e = none_by x xs (x == 10) refl e (after_none xs)
