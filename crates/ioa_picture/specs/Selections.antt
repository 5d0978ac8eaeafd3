-- Which entries of a log a chart draws.
use Rattle.std.specs.Prelude.{ℕ, ◌-◌, ◌&&◌, not, nat_le, Bool, true, List, [], Option, None, map}
use Rattle.std.specs.List.{list_any}
use Rattle.std.specs.Option.{option_map_or}
use Rattle.std.specs.Str.{bytes_eq}
use Rattle.ioa_value.specs.Actions.{Name}

-- those from an index to another, both included, where there are such bounds; and of these not the actions of some names
pub record Selection : Type 0 where
  pub from : Option ℕ
  pub to : Option ℕ
  pub without : List Name

-- all of them
abbrev pub whole : Selection
whole = record { from = None; to = None; without = [] }

-- an index is within the bounds
abbrev pub is_within : Option ℕ → Option ℕ → ℕ → Bool
is_within from to i = option_map_or (λ first. nat_le first i) from true && option_map_or (λ last. nat_le i last) to true

-- a name is one of those that are left out
abbrev pub is_left_out : List Name → Name → Bool
is_left_out without name = list_any (λ x. bytes_eq x name) without

-- the entry of this index is drawn, which is of an action of this name
abbrev pub is_drawn : Selection → ℕ → Name → Bool
is_drawn s i name = is_within s.from s.to i && not (is_left_out s.without name)

-- the last of so many entries stands no later than the bound
abbrev pub reaches_end : Option ℕ → ℕ → Bool
reaches_end to n = option_map_or (λ last. nat_le (n - 1) last) to true
