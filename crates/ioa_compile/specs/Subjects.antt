-- What a program may be said to run as: the hosts that a source declares, the composition that stands for them, or the program's own table.
use Rattle.std.specs.Prelude.{◌≡◌, ℕ, List, map, Option, Some, None, slice_get}
use Rattle.ioa_value.specs.Actions.{Name}
use Rattle.ioa_value.specs.Plain.{Val}
use Rattle.ioa_value.specs.Table.{Table}
use Rattle.ioa_value.specs.Typing.{HaveTypes}
use Rattle.ioa_tree.specs.Components.{Component}
use Rattle.ioa_tree.specs.Compositions.{Composed, components_of, starts_of}
use Rattle.ioa_tree.specs.Hosts.{Host, HostState, Hosted, hosts_of, host_starts}
use Rattle.ioa_tree.specs.Meaning.{Env}
use Rattle.ioa_compose.specs.Simulates.{Simulates, SlotsHold}
use Rattle.ioa_compile.specs.Correspondence.{CorrespondsAt}
use Rattle.ioa_compile.specs.Implements.{Implements}
use Rattle.ioa_compile.specs.Programs.{MemberCode, Prog}
use Rattle.ioa_compile.specs.Tables.{start_states, tabled}

pub data Subject : Type 0 where
  of_hosts : Hosted → Subject
  of_composition : Composed → Subject
  of_table : Prog → Subject

-- the states of its components
abbrev pub State : Subject → Type 0
State (of_hosts h) = HostState Env
State (of_composition c) = Env
State (of_table p) = List Val

-- its declared types, the names that it hides, its components in order, and the states in which they start
abbrev pub its_types : Subject → Table
its_types (of_hosts h) = h.types
its_types (of_composition c) = c.types
its_types (of_table p) = p.types

abbrev pub its_hidden : Subject → List Name
its_hidden (of_hosts h) = h.hidden
its_hidden (of_composition c) = c.hidden
its_hidden (of_table p) = p.hidden

abbrev pub its_components : (s : Subject) → List (Component (State s))
its_components (of_hosts h) = hosts_of h
its_components (of_composition c) = components_of c
its_components (of_table p) = tabled p

abbrev pub its_starts : (s : Subject) → List (State s)
its_starts (of_hosts h) = host_starts h
its_starts (of_composition c) = starts_of c
its_starts (of_table p) = start_states p

-- the names of its components, in their order
abbrev pub its_names : Subject → List Name
its_names (of_hosts h) = map (λ p. p.name) h.hosts
its_names (of_composition c) = map (λ m. m.name) c.members
its_names (of_table p) = map (λ m. m.name) p.members

-- ---- programs that do what a subject does

-- a composition simulates the hosts, and the program implements it
abbrev pub Runs : Prog → Hosted → Type 0
Runs p h = (c : Composed) × Simulates h c × Implements p c

-- the program does what the subject does: what the hosts do, what the composition does, or what its own table does
abbrev pub RunsAs : Prog → Subject → Type 0
RunsAs p (of_hosts h) = Runs p h
RunsAs p (of_composition c) = Implements p c
RunsAs p (of_table q) = p ≡ q

-- ---- states in a program's slots

-- the slots hold the host's state, and have the types of the component's slots
abbrev pub HoldsIn : Option Host → Option MemberCode → HostState Env → List Val → Type 0
HoldsIn (Some p) (Some m) h slots = SlotsHold p h slots × HaveTypes m.start.table slots m.start.types
HoldsIn (Some p) None h slots = ⊥
HoldsIn None (Some m) h slots = ⊥
HoldsIn None None h slots = ⊥

-- by the place of the component
abbrev pub HoldsTyped : List Host → List MemberCode → ℕ → HostState Env → List Val → Type 0
HoldsTyped hosts ms i h slots = HoldsIn (slice_get hosts i) (slice_get ms i) h slots

-- the program's slots of the component of this number hold the state of the subject's; of its own table the state is what they hold
abbrev pub InSlots : Prog → (s : Subject) → ℕ → State s → List Val → Type 0
InSlots p (of_hosts h) i state slots = HoldsTyped h.hosts p.members i state slots
InSlots p (of_composition c) i state slots = CorrespondsAt c.members i state slots
InSlots p (of_table q) i state slots = state ≡ slots
