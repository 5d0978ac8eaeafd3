-- What a reader keeps of what it gives.
use Rattle.std.specs.Prelude.{◌≡◌, ◌⊎◌, ◌++◌, ℕ, List, Option, None}
use Rattle.std.specs.Option.{option_map}
use Rattle.ioac.specs.declared.tees.Tee.{Tee}

-- what it kept; none where it keeps nothing
abbrev pub kept_of : {T : Type 0} → Tee T → Option (List ℕ)
kept_of h = option_map (λ bytes. bytes.items) h.kept

-- the piece was kept, too; or memory was short, and nothing is kept any more
abbrev pub IsNoted : Option (List ℕ) → List ℕ → Option (List ℕ) → Type 0
IsNoted before piece after = (after ≡ option_map (λ bytes. bytes ++ piece) before) ⊎ (after ≡ None)
