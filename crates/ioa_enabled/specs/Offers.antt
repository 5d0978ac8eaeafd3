-- What is told of an entry: which of its ways are enabled in a state.
use Rattle.std.specs.Prelude.{◌≡◌, ◌%◌, ◌/◌, ℕ, zero, suc, Bool, List, [], ◌∷◌, Option, Some, None, length, map, nat_lt, slice_get}
use Rattle.ioa_value.specs.Actions.{Name, act_of}
use Rattle.ioa_value.specs.Plain.{Val}
use Rattle.ioa_parts.specs.Nodes.{Node}
use Rattle.ioa_compile.specs.Programs.{MemberCode}
use Rattle.ioa_compile.specs.Tables.{AreEntries, table_component}
use Rattle.ioa_run.specs.Choices.{AreOfState}
use Rattle.ioa_system.specs.Systems.{slots_of}
use Rattle.ioa_enabled.specs.declared.offers.Offer.{Offer}
use Rattle.ioa_enabled.specs.Sampled.{both}
use Rattle.ioa_enabled.specs.Ways.{Values, enabled_ways, total}

-- the combination of this number of values for each place; none past the last one
abbrev pub picked : List (List Val) → ℕ → Option (List Val)
picked [] zero = Some []
picked [] (suc k) = None
picked (vs ∷ rest) k = both (slice_get vs (k % length vs)) (picked rest (k / length vs))

-- the component's entries are sound, and so is their code over each state of its variables' types
pub record IsReady (m : MemberCode) : Type 0 where
  pub sound : AreEntries m m.entries
  pub codes : (n : Node) → slots_of n ≡ slots_of m.start → AreOfState n m.entries

-- the component's entries are sound, and the state is of its variables' types
pub record IsPlaced (m : MemberCode) (n : Node) : Type 0 where
  pub sound : AreEntries m m.entries
  pub slots : slots_of n ≡ slots_of m.start
  pub codes : AreOfState n m.entries

-- which of the first so many ways are enabled in a state of these values, and whether there are more ways
pub record TellsOffer (m : MemberCode) (s : List Val) (x : Name) (cs : List Values) (most : ℕ) (o : Offer) : Type 0 where
  pub enabled : map act_of o.enabled.items ≡ enabled_ways (table_component m) s x cs most
  pub more : o.more ≡ nat_lt most (total cs)
