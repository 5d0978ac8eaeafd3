-- An index by which names are found in their places.
use Rattle.std.specs.Prelude.{◌≡◌, ℕ, List, slice_get}
use Rattle.ioa_value.specs.Actions.{Name}
use Rattle.ioa_value.specs.Table.{place_from}
use Rattle.ioa_clash.specs.Index.{under}
use Rattle.ioa_clash.specs.declared.index.Index.{Index}

-- under each name its place stands first
abbrev pub ArePlaced : Index ℕ → List Name → Type 0
ArePlaced index ns = (x : Name) → slice_get (under index x) 0 ≡ place_from 0 ns x
