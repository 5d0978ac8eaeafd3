-- Invariants that are broken in the states of a program's components: those in which its variables have their values.
use Rattle.std.specs.Prelude.{◌≡◌, ℕ, ◌+◌, List, [], ◌∷◌, Option, Some, None, slice_get}
use Rattle.std.specs.Option.{option_map}
use Rattle.ioa_value.specs.Actions.{Act}
use Rattle.ioa_value.specs.Plain.{Val}
use Rattle.ioa_parts.specs.Nodes.{Node}
use Rattle.ioa_tree.specs.Compositions.{Composed, Member}
use Rattle.ioa_tree.specs.Hosts.{first_broken_host}
use Rattle.ioa_tree.specs.Instances.{state_of}
use Rattle.ioa_tree.specs.Invariants as invariants
use Rattle.ioa_tree.specs.Likes.{AllRelated}
use Rattle.ioa_tree.specs.Meaning.{Env, nothing_known}
use Rattle.ioa_tree.specs.Runs.{Ending, done, not_an_action_at, not_enabled_at, fault_at}
use Rattle.ioa_tree.specs.WellFormed.{variable_fields}
use Rattle.ioa_compose.specs.Simulates.{Simulates}
use Rattle.ioa_compile.specs.Correspondence.{CorrespondsAt}
use Rattle.ioa_compile.specs.Implements.{Implements}
use Rattle.ioa_compile.specs.Matching.{AreTypesOf}
use Rattle.ioa_compile.specs.Programs.{Prog}
use Rattle.ioa_compile.specs.Subjects.{Subject, its_components, its_starts, of_composition, of_hosts, of_table}
use Rattle.ioa_system.specs.Logs.{Logged, actions_of}
use Rattle.ioa_system.specs.Records.{IsRunAs}
use Rattle.ioa_log.specs.Judging.{agrees, judged}
use Rattle.ioa_inspect.specs.declared.broken_invariants.Broken.{Broken}
use Rattle.ioa_inspect.specs.declared.broken_invariants.Inspection.{Inspection}

-- what the program tells of a broken invariant
abbrev pub broken_of : Broken → invariants.Broken
broken_of b = record { state = b.state; component = b.component; invariant = b.invariant }

-- the state in which the component's variables have these values
abbrev pub state_in : Option Member → List Val → Env
state_in (Some m) vs = state_of m.instance.automaton vs
state_in None vs = nothing_known

-- the states of the components from the one of this number on
abbrev pub states_in : List Member → ℕ → List (List Val) → List Env
states_in ms i [] = []
states_in ms i (vs ∷ vss) = state_in (slice_get ms i) vs ∷ states_in ms (i + 1) vss

-- there is a component of this number, and the values are of its variables' types
abbrev pub IsState : List Member → ℕ → List Val → Type 0
IsState ms i vs = CorrespondsAt ms i (state_in (slice_get ms i) vs) vs

-- so it is of each, from the first component on
abbrev pub AreStates : List Member → List (List Val) → Type 0
AreStates ms vss = AllRelated (CorrespondsAt ms) 0 (states_in ms 0 vss) vss

-- the state has the component's types, if there is a component of this number
abbrev pub IsTypedAt : List Member → ℕ → Node → Type 0
IsTypedAt ms i n = (m : Member) → slice_get ms i ≡ Some m → (n.table ≡ m.instance.types) × AreTypesOf m.instance.types (variable_fields m.instance.automaton) n.types

-- so have the states of all
abbrev pub AreTyped : List Member → List Node → Type 0
AreTyped ms ns = (i : ℕ) (n : Node) → slice_get ns i ≡ Some n → IsTypedAt ms i n

-- the first that is broken in the states in which a run over n actions ends: they stand after all n, or were asked before
abbrev pub broken_at_end : Composed → ℕ → Ending → List Env → Option invariants.Broken
broken_at_end c n (done k) ss = invariants.broken_at c n ss
broken_at_end c n (not_an_action_at i) ss = None
broken_at_end c n (not_enabled_at i) ss = None
broken_at_end c n (fault_at j f i) ss = None

-- ---- what is asked of a composition, said of what it stands for

-- the composition does what the subject does: it is the subject, or simulates its hosts
abbrev pub SimulatesAs : Composed → Subject → Type 0
SimulatesAs c (of_hosts h) = Simulates h c
SimulatesAs c (of_composition d) = c ≡ d
SimulatesAs c (of_table p) = ⊥

-- the first invariant that is broken along the subject's run; a table has none
abbrev pub its_first_broken : Subject → List Act → Option invariants.Broken
its_first_broken (of_hosts h) = first_broken_host h
its_first_broken (of_composition c) = invariants.first_broken c
its_first_broken (of_table p) = λ acts. None

-- the log is of the run that the subject does, which a program of the composition performed, and this is broken first along it
pub record IsInspectionOf (c : Composed) (s : Subject) (log : Logged) (i : Inspection) : Type 0 where
  pub agreed : judged (its_components s) (its_starts s) log ≡ agrees
  pub program : Prog
  pub means : Implements program c
  pub run : IsRunAs program s (actions_of log) i.run
  pub first : option_map broken_of i.broken ≡ its_first_broken s (actions_of log)
