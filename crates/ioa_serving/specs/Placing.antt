-- When bytes may be put in a file: by what stands there, and by how they begin.
use Rattle.std.specs.Prelude.{◌≡◌, ◌⊎◌, ◌++◌, List, [], Option, Some, None, codes, ℕ}
use Rattle.ioa_value.specs.Actions.{Name}

-- What stands in the place of bytes that are to be written gives way to them: no file that can be read, or an empty one, or one that begins with this mark, as
-- they do. Of a file its beginning is told.
abbrev pub GivesWay : List ℕ → Option (List ℕ) → Type 0
GivesWay begun None = Unit {0}
GivesWay begun (Some found) = (found ≡ []) ⊎ ((rest : List ℕ) × (found ≡ begun ++ rest))

-- how each log begins
abbrev pub log_mark : List ℕ
log_mark = codes "{\""

-- what may stand in the file gives way
abbrev pub Yields : List ℕ → (Name → Option (List ℕ) → Type 0) → Name → Type 0
Yields begun begins out = (found : Option (List ℕ)) × begins out found × GivesWay begun found

-- the bytes were put in the file, where what stood there gave way
abbrev pub Places : List ℕ → (Name → Option (List ℕ) → Type 0) → (Name → List ℕ → Type 0) → Name → List ℕ → Type 0
Places begun begins saves out bytes = Yields begun begins out × saves out bytes

-- the file may not be written, or there may stand what does not give way
abbrev pub Blocks : List ℕ → (Name → Option (List ℕ) → Type 0) → (Name → Type 0) → Name → Type 0
Blocks begun begins bars out = bars out ⊎ ((found : Option (List ℕ)) × begins out found × (GivesWay begun found → ⊥))
