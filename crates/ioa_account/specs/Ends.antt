-- How runs end: what an ending tells of the list of actions.
use Rattle.std.specs.Prelude.{◌≡◌, ◌<◌, ℕ, length, List, Option, Some, None, slice_get}
use Rattle.std.specs.Option.{option_and_then}
use Rattle.ioa_value.specs.Actions.{Act}
use Rattle.ioa_tree.specs.Components.{Component}
use Rattle.ioa_tree.specs.Hosts.{Hosted, hosts_of, host_starts}
use Rattle.ioa_tree.specs.Runs.{Ending, done, not_an_action_at, not_enabled_at, fault_at, run}
use Rattle.ioa_tree.specs.Steps.{owner}

-- the index of the action that is not performed
abbrev pub index_in : Ending → Option ℕ
index_in (done n) = None
index_in (not_an_action_at i) = Some i
index_in (not_enabled_at i) = Some i
index_in (fault_at c f i) = Some i

-- the component that owns the action of this index
abbrev pub owner_at : {S : Type 0} → List (Component S) → List Act → ℕ → Option ℕ
owner_at ps acts i = option_and_then (owner ps) (slice_get acts i)

-- the component that stops the run: the owner of the action that is not enabled, or the one that faults
abbrev pub component_in : {S : Type 0} → List (Component S) → List Act → Ending → Option ℕ
component_in ps acts (done n) = None
component_in ps acts (not_an_action_at i) = None
component_in ps acts (not_enabled_at i) = owner_at ps acts i
component_in ps acts (fault_at c f i) = Some c

-- there is such a component, by its number
abbrev pub IsOneOf : {S : Type 0} → List (Component S) → Option ℕ → Type 0
IsOneOf ps o = (c : ℕ) × (o ≡ Some c) × (c < length ps)

-- the action that is not performed is one of the list, and where a component stops the run, it is one of these
abbrev pub IsStopped : {S : Type 0} → List (Component S) → List Act → Ending → Type 0
IsStopped ps acts (done n) = Unit {0}
IsStopped ps acts (not_an_action_at i) = i < length acts
IsStopped ps acts (not_enabled_at i) = (i < length acts) × IsOneOf ps (owner_at ps acts i)
IsStopped ps acts (fault_at c f i) = (i < length acts) × IsOneOf ps (Some c)

-- so each run of hosts ends
abbrev pub EndsAreFound : Type 0
EndsAreFound = (h : Hosted) (acts : List Act) → IsStopped (hosts_of h) acts (run (hosts_of h) acts (host_starts h)).ending
