-- Which workers of a run on threads can influence each other: those that are linked, and those that are by way of others. They are one group.
use Rattle.std.specs.Prelude.{◌≡◌, ◌<◌, ◌==◌, ℕ, Bool, IsTrue, List, length, slice_index, if◌then◌else◌}

-- the workers of these numbers are of one group
abbrev pub AreTogether : List ℕ → ℕ → ℕ → Type 0
AreTogether gs v w = slice_index gs v ≡ slice_index gs w

-- of so many workers, those that are linked have this in common
abbrev pub IsCommon : (ℕ → ℕ → Bool) → ℕ → (ℕ → ℕ) → Type 0
IsCommon link count h = (v w : ℕ) → v < count → w < count → IsTrue (link v w) → h v ≡ h w

-- so many workers are in groups, and no two are in one that linking does not bring together: what linked ones have in common, those of a group have
pub record AreLinked (link : ℕ → ℕ → Bool) (count : ℕ) (gs : List ℕ) : Type 0 where
  pub each : length gs ≡ count
  pub only : (h : ℕ → ℕ) → IsCommon link count h → (v w : ℕ) → v < count → w < count → AreTogether gs v w → h v ≡ h w

-- who is linked with this worker is of its group, among the workers before this number
abbrev pub HasJoined : (ℕ → ℕ → Bool) → List ℕ → ℕ → ℕ → Type 0
HasJoined link gs v end = (w : ℕ) → w < end → IsTrue (link v w) → AreTogether gs v w

-- the finest division of so many workers into groups such that those that are linked are of one group
pub record AreGroups (link : ℕ → ℕ → Bool) (count : ℕ) (gs : List ℕ) : Type 0 where
  pub linked : AreLinked link count gs
  pub together : (v : ℕ) → v < count → HasJoined link gs v count

-- those that are of one group stay together
abbrev pub Keeps : List ℕ → List ℕ → Type 0
Keeps gs hs = (v w : ℕ) → v < length gs → w < length gs → AreTogether gs v w → AreTogether hs v w

-- one group goes into another
abbrev pub merged : ℕ → ℕ → ℕ → ℕ
merged from to g = if g == from then to else g
