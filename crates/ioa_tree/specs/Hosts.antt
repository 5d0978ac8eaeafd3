-- Components that crash and recover, and the compositions of them that sources declare (crashes that lose what is not stable: Lynch 1996,
-- section 22.5).
use Rattle.std.specs.Prelude.{◌≡◌, ℕ, Bool, true, false, not, ◌&&◌, ◌||◌, if◌then◌else◌, IsTrue, List, [], ◌∷◌, map, Option, Some, None, Result, Ok, Err}
use Rattle.std.specs.List.{list_all}
use Rattle.std.specs.Str.{bytes_eq}
use Rattle.ioa_arithmetic.specs.declared.arithmetic.Fault.{Fault}
use Rattle.ioa_value.specs.Actions.{Name, Act}
use Rattle.ioa_value.specs.Plain.{Val}
use Rattle.ioa_value.specs.Table.{Table, contains}
use Rattle.ioa_tree.specs.declared.tree.Kind.TheVariants.{Input}
use Rattle.ioa_tree.specs.Tree.{CrashTree, VariableTree, AutomatonTree, InstanceTree, InvariantTree, CompositionTree, SourceTree}
use Rattle.ioa_tree.specs.Meaning.{Env}
use Rattle.ioa_tree.specs.Types.{types_of}
use Rattle.ioa_tree.specs.Instances.{Instance, component_of, argument_values, start_values, Fit, state_of}
use Rattle.ioa_tree.specs.Components.{Component, Compatible}
use Rattle.ioa_tree.specs.Compositions.{automaton_named, is_output_of, invariants}
use Rattle.ioa_tree.specs.Invariants.{Broken, broken_from, first_from}

-- ---- hosts, of whatever component

-- whether a host is up, and the state of its component
pub record HostState (S : Type 0) : Type 0 where
  pub up : Bool
  pub inner : S

abbrev pub host_state : {S : Type 0} → Bool → S → HostState S
host_state up inner = record { up = up; inner = inner }

-- the action of this name without values
abbrev pub has_no_values : List Val → Bool
has_no_values [] = true
has_no_values (v ∷ vs) = false

abbrev pub is_signal : Name → Act → Bool
is_signal x a = bytes_eq x a.name && has_no_values a.vals

abbrev pub when_ok : {S T : Type 0} → (S → T) → Result S Fault → Result T Fault
when_ok f (Ok s) = Ok (f s)
when_ok f (Err e) = Err e

-- Crash and recover are two more inputs. A crash resets the component's state, and puts the host down; a recover puts it up. While it is
-- down no action of the component's own is enabled, and its other inputs change nothing.
abbrev pub wrapped : {S : Type 0} → CrashTree → (S → S) → Component S → Component (HostState S)
wrapped names reset p = record {
  kind_of = λ a. if is_signal names.crash a || is_signal names.recover a then Some Input else p.kind_of a;
  guard = λ a h. if h.up then p.guard a h.inner else Ok false;
  effect = λ a h.
      if is_signal names.crash a then Ok (host_state false (reset h.inner))
      else if is_signal names.recover a then Ok (host_state true h.inner)
      else if h.up then when_ok (host_state true) (p.effect a h.inner)
      else Ok h;
}

-- a host that does not crash
abbrev pub steady : {S : Type 0} → Component S → Component (HostState S)
steady p = record {
  kind_of = p.kind_of;
  guard = λ a h. p.guard a h.inner;
  effect = λ a h. when_ok (host_state h.up) (p.effect a h.inner);
}

abbrev pub hosted : {S : Type 0} → Option CrashTree → (S → S) → Component S → Component (HostState S)
hosted None reset p = steady p
hosted (Some names) reset p = wrapped names reset p

-- ---- hosts of sources

-- crash and recover have names of their own: no entry's, and two
abbrev pub crash_fine : Option CrashTree → AutomatonTree → Bool
crash_fine None a = true
crash_fine (Some n) a =
    not (bytes_eq n.crash n.recover) && not (contains (map (λ e. e.name) a.entries) n.crash) && not (contains (map (λ e. e.name) a.entries) n.recover)

-- each variable that is not stable has its start value; the others keep theirs
abbrev pub reset_to : List VariableTree → List Val → Env → Env
reset_to [] ws s x = s x
reset_to (v ∷ vs) [] s x = s x
reset_to (v ∷ vs) (w ∷ ws) s x = if not v.stable && bytes_eq v.field.name x then Some w else reset_to vs ws s x

-- a component of a source: its name, its instance, the start values of its variables in order, and its crash and recover, where it
-- has them
pub record Host : Type 0 where
  pub name : Name
  pub instance : Instance
  pub starts : List Val
  pub crash : Option CrashTree

abbrev pub host_of : Host → Component (HostState Env)
host_of h = hosted h.crash (reset_to h.instance.automaton.variables h.starts) (component_of h.instance)

-- it starts up
abbrev pub host_start : Host → HostState Env
host_start h = host_state true (state_of h.instance.automaton h.starts)

-- a composition of hosts: its types, its name, its components in order, the names that are hidden, and the source's invariants in order
pub record Hosted : Type 0 where
  pub types : Table
  pub name : Name
  pub hosts : List Host
  pub hidden : List Name
  pub invariants : List InvariantTree

-- what an instance's tree stands for: its automaton, its arguments' values, which fit the formals, the start, and crash and recover
pub record IsHost (s : SourceTree) (i : InstanceTree) (h : Host) : Type 0 where
  pub name : h.name ≡ i.name
  pub types : h.instance.types ≡ types_of s
  pub automaton : automaton_named s i.automaton ≡ Some h.instance.automaton
  pub arguments : argument_values (types_of s) i.arguments ≡ Ok h.instance.arguments
  pub fit : Fit (types_of s) h.instance.automaton.formals h.instance.arguments
  pub starts : start_values h.instance ≡ Ok h.starts
  pub crash : h.crash ≡ i.crash
  pub fine : IsTrue (crash_fine i.crash h.instance.automaton)

abbrev pub AreHosts : SourceTree → List InstanceTree → List Host → Type 0
AreHosts s [] [] = Unit {0}
AreHosts s [] (h ∷ hs) = ⊥
AreHosts s (i ∷ is) [] = ⊥
AreHosts s (i ∷ is) (h ∷ hs) = IsHost s i h × AreHosts s is hs

-- the components as the step sees them, and the states in which they start
abbrev pub hosts_of : Hosted → List (Component (HostState Env))
hosts_of c = map host_of c.hosts

abbrev pub host_starts : Hosted → List (HostState Env)
host_starts c = map host_start c.hosts

abbrev pub host_instances : Hosted → List Instance
host_instances c = map (λ h. h.instance) c.hosts

-- the composition that the source's tree stands for: each name that it hides is an output's
pub record IsHosted (s : SourceTree) (t : CompositionTree) (c : Hosted) : Type 0 where
  pub types : c.types ≡ types_of s
  pub name : c.name ≡ t.name
  pub hosts : AreHosts s t.instances c.hosts
  pub hidden : c.hidden ≡ t.hidden
  pub outputs : IsTrue (list_all (is_output_of (host_instances c)) t.hidden)
  pub invariants : c.invariants ≡ invariants s
  pub compatible : Compatible (hosts_of c)

-- the first invariant that is broken along the run of the actions; what a host's component holds counts also while it is down
abbrev pub broken_hosts : Hosted → ℕ → List (HostState Env) → Option Broken
broken_hosts c n hs = broken_from n 0 c.invariants (host_instances c) (map (λ h. h.inner) hs)

abbrev pub first_broken_host : Hosted → List Act → Option Broken
first_broken_host c acts = first_from (hosts_of c) (broken_hosts c) 0 acts (host_starts c)
