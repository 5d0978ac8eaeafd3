-- Specifications that are handed a stream of actions, one after another: they perform those of their names, and count them.
use Rattle.std.specs.Prelude.{ℕ, ◌+◌, List, [], ◌∷◌, length, replicate, Option, Some, None, is_some, if◌then◌else◌, slice_index_or, slice_set}
use Rattle.ioa_value.specs.Actions.{Name, Act}
use Rattle.ioa_value.specs.Table.{place_from}
use Rattle.ioa_tree.specs.Components.{Component}
use Rattle.ioa_tree.specs.Steps.{Moved, next, not_an_action, not_enabled, fault, step}
use Rattle.ioa_tree.specs.Runs.{Ending, not_an_action_at, not_enabled_at, fault_at}

-- what is kept of one: its components' states, how many actions came before the one that is refused, how many of each of its names were
-- taken, how many of other names were passed over, and why the first one is refused that is, with its index
pub record Watching (S : Type 0) : Type 0 where
  pub states : List S
  pub heard : ℕ
  pub counts : List ℕ
  pub others : ℕ
  pub refusal : Option Ending

-- before the first action
abbrev pub starting : {S : Type 0} → List Name → List S → Watching S
starting names ss = record { states = ss; heard = 0; counts = replicate (length names) 0; others = 0; refusal = None }

-- one more in this place
abbrev pub one_more : ℕ → List ℕ → List ℕ
one_more i ks = slice_set ks i (slice_index_or ks i 0 + 1)

-- the step's answer to an action whose name stands in this place: it is taken, or refused
abbrev pub answered : {S : Type 0} → ℕ → Moved S → Watching S → Watching S
answered i (next ss) w = record w { states = ss; heard = w.heard + 1; counts = one_more i w.counts }
answered i not_an_action w = record w { refusal = Some (not_an_action_at w.heard) }
answered i not_enabled w = record w { refusal = Some (not_enabled_at w.heard) }
answered i (fault c f) w = record w { refusal = Some (fault_at c f w.heard) }

module _ {S : Type 0} (names : List Name) (ps : List (Component S)) where
  -- by the place of its name: one of no such name is passed over, whatever its values
  abbrev pub tried : Option ℕ → Act → Watching S → Watching S
  tried (Some i) a w = answered i (step ps a w.states) w
  tried None a w = record w { heard = w.heard + 1; others = w.others + 1 }

  -- one action more; behind one that is refused nothing is heard
  abbrev pub hearing : Act → Watching S → Watching S
  hearing a w = if is_some w.refusal then w else tried (place_from 0 names a.name) a w

  abbrev pub hearing_all : List Act → Watching S → Watching S
  hearing_all [] w = w
  hearing_all (a ∷ acts) w = hearing_all acts (hearing a w)

  -- the first action that is refused, by its index among all; none where all are taken or passed over
  abbrev pub watched : List Act → List S → Option Ending
  watched acts ss = (hearing_all acts (starting names ss)).refusal
