-- Which two workers of a run on threads share an action.
use Rattle.std.specs.Prelude.{◌≡◌, ◌<◌, ◌&&◌, ℕ, Bool, IsTrue, false, List, None, Option, Some, length, slice_get}
use Rattle.std.specs.List.{list_any}
use Rattle.std.specs.Str.{bytes_eq}
use Rattle.ioa_value.specs.Actions.{Act}
use Rattle.ioa_value.specs.Positions.{all_meet}
use Rattle.ioa_value.specs.Table.{Table}
use Rattle.ioa_tree.specs.Components.{has}
use Rattle.ioa_compile.specs.Programs.{EntryCode, MemberCode, Prog}
use Rattle.ioa_compile.specs.Tables.{is_in, table_component}
use Rattle.ioa_serving.specs.Grouping.{AreTogether}

-- some action is in both entries
abbrev pub share : Table → EntryCode → EntryCode → Bool
share types e f = bytes_eq e.name f.name && all_meet types e.positions f.positions

-- some action is in this entry, and is the component's
abbrev pub has_of : Table → MemberCode → EntryCode → Bool
has_of types m e = list_any (share types e) m.entries

-- some action is of both components
abbrev pub have_common : Table → MemberCode → MemberCode → Bool
have_common types m n = list_any (has_of types n) m.entries

-- the action is in an entry of the component
abbrev pub takes_part : Table → MemberCode → Act → Bool
takes_part types m a = list_any (is_in types a) m.entries

-- two components are linked that have an action in common; and the environment, which is no component, with each that has an action of its script
abbrev pub are_linked_by : Table → List Act → Option MemberCode → Option MemberCode → Bool
are_linked_by types inputs (Some m) (Some n) = have_common types m n
are_linked_by types inputs None (Some n) = list_any (takes_part types n) inputs
are_linked_by types inputs (Some m) None = false
are_linked_by types inputs None None = false

-- the same of the workers of these numbers
abbrev pub are_linked : Prog → List Act → ℕ → ℕ → Bool
are_linked p inputs v w = are_linked_by p.types inputs (slice_get p.members v) (slice_get p.members w)

-- the worker of this number takes part in the action: a component that has it, or the environment, where it is one of its script
abbrev pub IsPart : List Act → Act → Option MemberCode → Type 0
IsPart inputs a (Some m) = IsTrue (has a (table_component m))
IsPart inputs a None = (i : ℕ) × (slice_get inputs i ≡ Some a)

abbrev pub TakesPart : Prog → List Act → Act → ℕ → Type 0
TakesPart p inputs a v = IsPart inputs a (slice_get p.members v)

-- two workers that take part in one action are of one group
abbrev pub ShareGroups : Prog → List Act → List ℕ → Type 0
ShareGroups p inputs gs = (a : Act) (v w : ℕ) → v < length gs → w < length gs → TakesPart p inputs a v → TakesPart p inputs a w → AreTogether gs v w
