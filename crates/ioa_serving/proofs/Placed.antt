-- Which bytes give way to others, by how they begin.
use Rattle.std.proofs.Common.{◌≡◌, ◌++◌, ◌↔◌, ℕ, Bool, true, List, [], ◌∷◌, Some, arith, drop, inl, inr, length, refl}
use Rattle.std.proofs.lemmas.Bool.{eqb-true}
use Rattle.std.specs.Prelude.{◌==◌, IsTrue}
use Rattle.ioa_serving.specs.Placing.{GivesWay}

-- there are none
pub nothing : (xs : List ℕ) → (length xs == 0) ≡ true → xs ≡ []
nothing [] e = refl
nothing (x ∷ xs) e = let z : length (x ∷ xs) ≡ 0 = eqb-true (length (x ∷ xs)) 0 e in absurd (omega (arith, z))

-- they begin with the mark, or they do not
pub marked : (begun bytes : List ℕ) (r : Bool) → (bytes ≡ [] → ⊥) → (r ≡ true → bytes ≡ begun ++ drop (length begun) bytes) × ((rest : List ℕ) → bytes ≡ begun ++ rest → r ≡ true)
    → IsTrue r ↔ GivesWay begun (Some bytes)
marked begun bytes r some says = (λ yes. inr (drop (length begun) bytes, says.0 yes), go)
  where
    go : GivesWay begun (Some bytes) → r ≡ true
    go (inl none) = absurd (some none)
    go (inr k) = says.1 k.0 k.1
