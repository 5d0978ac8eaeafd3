-- What is counted of a stream of actions, in whole lists.
use Rattle.std.specs.Prelude.{◌≡◌, ◌≤◌, ℕ, Bool, not, List, length, take, slice_get, None, Some, count_by}
use Rattle.std.specs.Str.{bytes_eq}
use Rattle.ioa_value.specs.Actions.{Name, Act}
use Rattle.ioa_value.specs.Table.{contains}
use Rattle.ioa_watch.specs.Watched.{Watching}

abbrev pub is_of : Name → Act → Bool
is_of x a = bytes_eq x a.name

-- of the actions before the one that is refused, all where none is: how many have each of the names, and how many have none of them
pub record CountsOf {S : Type 0} (names : List Name) (acts : List Act) (w : Watching S) : Type 0 where
  pub within : w.heard ≤ length acts
  pub places : length w.counts ≡ length names
  pub counts : (i : ℕ) (x : Name) → slice_get names i ≡ Some x → slice_get w.counts i ≡ Some (count_by (is_of x) (take w.heard acts))
  pub others : w.others ≡ count_by (λ a. not (contains names a.name)) (take w.heard acts)
  pub whole : w.refusal ≡ None → w.heard ≡ length acts
