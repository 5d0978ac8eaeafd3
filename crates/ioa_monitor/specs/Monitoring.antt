-- Whether a specification accepts actions: it runs on those of them that its components have.
use Rattle.std.specs.Prelude.{◌≡◌, ℕ, ◌+◌, ◌==◌, ◌||◌, Bool, true, false, not, if◌then◌else◌, List, [], ◌∷◌, length, Option, Some, None, slice_get}
use Rattle.std.specs.List.{list_any}
use Rattle.ioa_value.specs.Actions.{Act}
use Rattle.ioa_tree.specs.Components.{Component, has}
use Rattle.ioa_tree.specs.Steps.{Moved, next, not_an_action, not_enabled, fault, step}
use Rattle.ioa_tree.specs.Runs.{Ending, not_an_action_at, not_enabled_at, fault_at}
use Rattle.ioa_tree.specs.Compositions.{Composed}
use Rattle.ioa_tree.specs.Hosts.{HostState, Hosted, hosts_of, host_instances}
use Rattle.ioa_tree.specs.Meaning.{Env}
use Rattle.ioa_tree.specs.declared.tree.Kind.{Kind}
use Rattle.ioa_tree.specs.declared.tree.Kind.TheVariants.{Input, Output, Internal}
use Rattle.ioa_compose.specs.Simulates.{has_kind}
use Rattle.ioa_compile.specs.Programs.{Prog}
use Rattle.ioa_compile.specs.Subjects.{Subject, of_hosts, of_composition, of_table}
use Rattle.ioa_system.specs.declared.outcomes.Step.{Step}
use Rattle.ioa_monitor.specs.declared.monitors.MonitorErr.{MonitorErr}

-- why the action of this index is not accepted, or what comes of the later ones
abbrev pub after_action : {S : Type 0} → ℕ → Moved S → (List S → Option Ending) → Option Ending
after_action n (next ss) more = more ss
after_action n not_an_action more = Some (not_an_action_at n)
after_action n not_enabled more = Some (not_enabled_at n)
after_action n (fault c f) more = Some (fault_at c f n)

-- the first action that is not accepted, by its index in the whole list; none where all are
abbrev pub monitored_from : {S : Type 0} → ℕ → List (Component S) → List Act → List S → Option Ending
monitored_from n ps [] ss = None
monitored_from n ps (a ∷ acts) ss =
    if list_any (has a) ps then after_action n (step ps a ss) (λ ts. monitored_from (n + 1) ps acts ts) else monitored_from (n + 1) ps acts ss

abbrev pub monitored : {S : Type 0} → List (Component S) → List Act → List S → Option Ending
monitored ps acts ss = monitored_from 0 ps acts ss

-- what its components do is not all seen: an entry of the table is internal, or a name is hidden
abbrev pub is_internal : Kind → Bool
is_internal Input = false
is_internal Output = false
is_internal Internal = true

abbrev pub hides : Prog → Bool
hides p = list_any (λ m. list_any (λ e. is_internal e.kind) m.entries) p.members || not (length p.hidden == 0)

-- the same of a composition's automata
abbrev pub hides_in : Composed → Bool
hides_in c = list_any (λ m. list_any (λ e. is_internal e.kind) m.instance.automaton.entries) c.members || not (length c.hidden == 0)

-- all that hosts do is seen: no action is internal to one of them, and no name is hidden
pub record IsSeen (h : Hosted) : Type 0 where
  pub external : (i : ℕ) (p : Component (HostState Env)) (a : Act) → slice_get (hosts_of h) i ≡ Some p → p.kind_of a ≡ Some Internal → ⊥
  pub unhidden : h.hidden ≡ []

-- an entry of a host's signature is internal, or a name is hidden
abbrev pub IsHiding : Hosted → Type 0
IsHiding h = (list_any (has_kind is_internal) (host_instances h) || not (length h.hidden == 0)) ≡ true

-- the answer to the action of this index is why it is not accepted
abbrev pub IsRefusedAt : ℕ → Step → Option Ending → Type 0
IsRefusedAt i Step.Next o = ⊥
IsRefusedAt i Step.NotAnAction o = o ≡ Some (not_an_action_at i)
IsRefusedAt i Step.NotEnabled o = o ≡ Some (not_enabled_at i)
IsRefusedAt i (Step.Fault c f) o = o ≡ Some (fault_at c f i)

-- all that a subject does is seen; or it is not, by an internal entry or a hidden name
abbrev pub IsOpen : Subject → Type 0
IsOpen (of_hosts h) = IsSeen h
IsOpen (of_composition c) = hides_in c ≡ false
IsOpen (of_table p) = hides p ≡ false

abbrev pub IsClosed : Subject → Type 0
IsClosed (of_hosts h) = IsHiding h
IsClosed (of_composition c) = hides_in c ≡ true
IsClosed (of_table p) = hides p ≡ true

-- the error is told of a subject that refuses so
abbrev pub IsRefusal : MonitorErr → Subject → Option Ending → Type 0
IsRefusal MonitorErr.SpecHasInternal s o = IsClosed s
IsRefusal (MonitorErr.At i a) s o = IsOpen s × IsRefusedAt i a o
IsRefusal MonitorErr.OutOfMemory s o = Unit {0}
