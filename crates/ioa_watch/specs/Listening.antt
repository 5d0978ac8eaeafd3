-- What a listener answers to a line.
use Rattle.std.specs.Prelude.{ℕ, Bool, List, [], ◌∷◌}
use Rattle.std.specs.List.{list_any}
use Rattle.serde_json.specs.Data.{Data}
use Rattle.ioa_value.specs.Actions.{Name, Act}
use Rattle.ioa_value.specs.Table.{Table, contains}
use Rattle.ioa_watch.specs.declared.lines.LineKind.{LineKind}
use Rattle.ioa_watch.specs.declared.watcher.Watcher.{Watcher}
use Rattle.ioa_watch.specs.Streams.{Tells, TellsAct, TellsEnd}
use Rattle.ioa_watch.specs.Watchers.{names_in}

-- a watcher has the name
abbrev pub known : List Watcher → Name → Bool
known ws x = list_any (λ w. contains (names_in w) x) ws

-- the value is of this kind, with this action
abbrev pub IsValueOfKind : Table → (Name → Bool) → Data → Act → LineKind → Type 0
IsValueOfKind types known d a LineKind.Action = TellsAct types known d a
IsValueOfKind types known d a LineKind.End = TellsEnd d

-- what a line of this kind tells
abbrev pub acts_told : Act → LineKind → List Act
acts_told a LineKind.Action = a ∷ []
acts_told a LineKind.End = []

abbrev pub IsLineOfKind : Table → (Name → Bool) → List ℕ → Act → LineKind → Type 0
IsLineOfKind types known line a kind = Tells types known line (acts_told a kind)
