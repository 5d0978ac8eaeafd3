-- Lines of numbered items.
use Rattle.std.specs.Prelude.{ℕ, ◌+◌, List, [], ◌∷◌, ◌++◌, Bool, cond}

-- lines of each of some items, which are numbered, from n on
abbrev pub numbered : {A : Type 0} → (ℕ → A → List ℕ) → ℕ → List A → List ℕ
numbered lines n [] = []
numbered lines n (x ∷ xs) = lines n x ++ numbered lines (n + 1) xs

-- the numbers, from n on, of the items of which this is true, in ascending order
abbrev pub numbers : {A : Type 0} → (A → Bool) → ℕ → List A → List ℕ
numbers holds n [] = []
numbers holds n (x ∷ xs) = cond (holds x) (n ∷ numbers holds (n + 1) xs) (numbers holds (n + 1) xs)
