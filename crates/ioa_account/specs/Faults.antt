-- Which fault an invariant has in a state of a component. It has none where it has a value there, or is of another automaton.
use Rattle.std.specs.Prelude.{ℕ, if◌then◌else◌, List, Option, None, slice_get}
use Rattle.std.specs.Option.{option_and_then}
use Rattle.std.specs.Str.{bytes_eq}
use Rattle.ioa_arithmetic.specs.declared.arithmetic.Fault.{Fault}
use Rattle.ioa_value.specs.Plain.{Val}
use Rattle.ioa_value.specs.Table.{Table}
use Rattle.ioa_tree.specs.Compositions.{Composed, Member}
use Rattle.ioa_tree.specs.Hosts.{Host, HostState, Hosted}
use Rattle.ioa_tree.specs.Instances.{state_of}
use Rattle.ioa_tree.specs.Meaning.{Env}
use Rattle.ioa_tree.specs.Tree.{InvariantTree}
use Rattle.ioa_compose.specs.Faults.{condition_fault}

-- ---- of hosts

abbrev pub host_fault : Table → HostState Env → InvariantTree → Host → Option Fault
host_fault types h v p = if bytes_eq v.automaton p.instance.automaton.name then condition_fault types p.instance v.condition h.inner else None

-- of the host of this number, by the states of all
abbrev pub fault_among : Table → Option InvariantTree → List Host → List (HostState Env) → ℕ → Option Fault
fault_among types o ps hs i = option_and_then (λ h. option_and_then (λ v. option_and_then (host_fault types h v) (slice_get ps i)) o) (slice_get hs i)

-- the invariant has this number, too
abbrev pub invariant_fault : Hosted → List (HostState Env) → ℕ → ℕ → Option Fault
invariant_fault h hs i k = fault_among h.types (slice_get h.invariants k) h.hosts hs i

-- ---- of slots

abbrev pub member_fault : Table → List Val → InvariantTree → Member → Option Fault
member_fault types vs v m = if bytes_eq v.automaton m.instance.automaton.name then condition_fault types m.instance v.condition (state_of m.instance.automaton vs) else None

-- of the component of this number, where it has these slots
abbrev pub fault_at : Table → Option InvariantTree → List Member → ℕ → List Val → Option Fault
fault_at types o ms i vs = option_and_then (λ v. option_and_then (member_fault types vs v) (slice_get ms i)) o

-- by the slots of all
abbrev pub fault_in : Table → Option InvariantTree → List Member → List (List Val) → ℕ → Option Fault
fault_in types o ms vss i = option_and_then (fault_at types o ms i) (slice_get vss i)

abbrev pub state_fault : Composed → List Val → ℕ → ℕ → Option Fault
state_fault c vs i k = fault_at c.types (slice_get c.invariants k) c.members i vs

abbrev pub slots_fault : Composed → List (List Val) → ℕ → ℕ → Option Fault
slots_fault c vss i k = fault_in c.types (slice_get c.invariants k) c.members vss i
