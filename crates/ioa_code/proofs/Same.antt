-- Whether types are the same.
use Rattle.std.proofs.Common.{◌≡◌, ℕ, ◌==◌, Bool, true, false, List, [], ◌∷◌, refl, ap, ◌∙◌, arith}
use Rattle.std.specs.Prelude.{◌&&◌}
use Rattle.std.proofs.lemmas.Bool.Decides.{nat_tests}
use Rattle.ioa_code.specs.Scan.{same_types}

pub same_types-is : (a b : List ℕ) → same_types a b ≡ true → a ≡ b
same_types-is [] [] h = refl
same_types-is [] (y ∷ ys) h = absurd (cc)
same_types-is (x ∷ xs) [] h = absurd (cc)
same_types-is (x ∷ xs) (y ∷ ys) h = go (x == y) refl h (same_types-is xs ys)
  where
    go : (b : Bool) → (x == y) ≡ b → (b && same_types xs ys) ≡ true → (same_types xs ys ≡ true → xs ≡ ys) → x ∷ xs ≡ y ∷ ys
    go true e h k = let same : x ≡ y = grind (arith, nat_tests) in let rest = k h in cc
    go false e h k = absurd (cc)

pub same_types-refl : (ts : List ℕ) → same_types ts ts ≡ true
same_types-refl [] = refl
same_types-refl (t ∷ ts) =
    let e : (t == t) ≡ true = grind (arith, nat_tests) in ap (λ b. b && same_types ts ts) e ∙ same_types-refl ts
