-- Compositions that stand for compositions of hosts: those that crash are rewritten.
use Rattle.std.specs.Prelude.{◌≡◌, ℕ, ◌+◌, Bool, true, false, List, ◌++◌, map, length, take, Option, Some, None, slice_get, IsTrue, All}
use Rattle.std.specs.List.{AllZip, list_all, list_any}
use Rattle.ioa_value.specs.Actions.{Name, Act}
use Rattle.ioa_value.specs.Plain.{Val, truth as truth_value}
use Rattle.ioa_tree.specs.declared.tree.Kind.{Kind}
use Rattle.ioa_tree.specs.declared.tree.Kind.TheVariants.{Input}
use Rattle.ioa_tree.specs.Tree.{Expr, CrashTree, EntryTree, AutomatonTree, InvariantTree, CompositionTree, SourceTree}
use Rattle.ioa_tree.specs.Meaning.{Env, values_of}
use Rattle.ioa_tree.specs.Names.{names_of_expr, LegalNames}
use Rattle.ioa_tree.specs.Instances.{Instance, variable_names, formal_values, entry_has, component_of, state_of}
use Rattle.ioa_tree.specs.Proposing.{Words, proposed}
use Rattle.ioa_tree.specs.Components.{Compatible}
use Rattle.ioa_tree.specs.Compositions.{Member, Composed, components_of, starts_of, instances_of}
use Rattle.ioa_tree.specs.Invariants.{holds, broken_at}
use Rattle.ioa_tree.specs.Likes.{AllLike, AllRelated}
use Rattle.ioa_tree.specs.Hosts.{HostState, crash_fine, Host, Hosted, IsHosted, hosts_of, host_starts, host_instances, broken_hosts}
use Rattle.ioa_tree.specs.WellFormed.{WellFormed}
use Rattle.ioa_crash.specs.Rewriting.{spelled, proposing, added_proposals, added_arguments, added_variables, crashing, crashing_starts, with_signals}
use Rattle.ioa_crash.specs.Crashes.{Corresponds, MayCrash}

-- a state of a host and a state of the component that stands for it
abbrev pub StandsBy : Option CrashTree → AutomatonTree → HostState Env → Env → Type 0
StandsBy None a h s = (h.up ≡ true) × (h.inner ≡ s)
StandsBy (Some n) a h s = Corresponds a h s

abbrev pub StandsFor : Host → HostState Env → Env → Type 0
StandsFor p h s = StandsBy p.crash p.instance.automaton h s

-- by place
abbrev pub StandsAt : List Host → ℕ → HostState Env → Env → Type 0
StandsAt hosts i h s = (p : Host) → slice_get hosts i ≡ Some p → StandsFor p h s

-- the component that stands for a host
abbrev pub member_by : Option CrashTree → Host → Member
member_by None p = record { name = p.name; instance = p.instance; starts = p.starts; declared = length p.instance.automaton.variables }
member_by (Some n) p = record {
  name = p.name;
  instance = crashing n p.instance p.starts;
  starts = crashing_starts p.starts;
  declared = length p.instance.automaton.variables;
}

abbrev pub member_for : Host → Member
member_for p = member_by p.crash p

abbrev pub composed_for : Hosted → Composed
composed_for h = record { types = h.types; name = h.name; members = map member_for h.hosts; hidden = h.hidden; invariants = h.invariants }

-- a host that crashes can be rewritten
abbrev pub MayStand : Option CrashTree → Host → Type 0
MayStand None p = Unit {0}
MayStand (Some n) p = MayCrash n p.instance p.starts

abbrev pub AllMayStand : Hosted → Type 0
AllMayStand h = (i : ℕ) (p : Host) → slice_get h.hosts i ≡ Some p → MayStand p.crash p

-- A host that does not crash has n slots, and is up. One that crashes has one slot more, the last one, which tells whether it is up.
abbrev pub TellsUp : Option CrashTree → ℕ → Bool → List Val → Type 0
TellsUp None n up slots = (length slots ≡ n) × (up ≡ true)
TellsUp (Some c) n up slots = (length slots ≡ n + 1) × (slice_get slots n ≡ Some (truth_value up))

-- slot i holds the value of the i-th declared variable (by its name: those of a well formed source differ), and the last slot of a host
-- that crashes whether it is up
pub record SlotsHold (p : Host) (h : HostState Env) (slots : List Val) : Type 0 where
  pub values : (x : Name) → h.inner x ≡ values_of (variable_names p.instance.automaton) slots x
  pub up : TellsUp p.crash (length p.instance.automaton.variables) h.up slots

-- by place
abbrev pub SlotsHoldAt : List Host → ℕ → HostState Env → List Val → Type 0
SlotsHoldAt hosts i h slots = (p : Host) → slice_get hosts i ≡ Some p → SlotsHold p h slots

-- slots that hold the values of the member's variables hold the state of the host for which its own state stands
abbrev pub HoldsWith : Host → Member → Type 0
HoldsWith p m = (h : HostState Env) (s : Env) (slots : List Val) → StandsFor p h s → length slots ≡ length (variable_names m.instance.automaton)
    → ((x : Name) → s x ≡ values_of (variable_names m.instance.automaton) slots x) → SlotsHold p h slots

-- The component is made of the host: it has the host's name, its entries, each with the same actions, its transitions' proposals, its
-- arguments and its variables, which are the declared ones, each in their order; what is added by which it crashes and recovers, if it
-- does, stands behind them. In states of which one stands for the other an entry's proposals give the same. What a name of a text stands
-- for among its formals is what it stands for among the host's.
pub record IsMadeBy (crash : Option CrashTree) (p : Host) (m : Member) : Type 0 where
  pub name : m.name ≡ p.name
  pub entries : m.instance.automaton.entries ≡ (with_signals crash p.instance.automaton).entries
  pub actions : (k : ℕ) (e : EntryTree) (a : Act) → slice_get p.instance.automaton.entries k ≡ Some e → entry_has m.instance a e ≡ entry_has p.instance a e
  pub proposals : map proposing m.instance.automaton.transitions ≡ map proposing p.instance.automaton.transitions ++ added_proposals crash
  pub proposes : (k : ℕ) (e : EntryTree) (h : HostState Env) (s : Env) (words : Words) (taken : ℕ) → slice_get p.instance.automaton.entries k ≡ Some e
      → StandsBy crash p.instance.automaton h s → proposed m.instance e s words taken ≡ proposed p.instance e h.inner words taken
  pub arguments : m.instance.arguments ≡ p.instance.arguments ++ added_arguments crash p.instance.automaton.variables p.starts
  pub formals : (x : Name) → IsTrue (spelled x) → formal_values m.instance x ≡ formal_values p.instance x
  pub variables : m.instance.automaton.variables ≡ p.instance.automaton.variables ++ added_variables crash
  pub declared : m.declared ≡ length p.instance.automaton.variables

abbrev pub IsMadeOf : Host → Member → Type 0
IsMadeOf p m = IsMadeBy p.crash p m

-- The condition is as true of the component as of the host: in states of which one stands for the other; where the declared variables
-- have these values, whatever the added one has; and where the host's state is held by these slots.
pub record HoldsAlike (p : Host) (m : Member) (condition : Expr) : Type 0 where
  pub states : (h : HostState Env) (s : Env) → StandsFor p h s → holds m.instance condition s ≡ holds p.instance condition h.inner
  pub values : (values more : List Val) → length values ≡ m.declared
      → holds m.instance condition (state_of m.instance.automaton (values ++ more)) ≡ holds p.instance condition (state_of p.instance.automaton values)
  pub slots : (h : HostState Env) (slots more : List Val) → SlotsHold p h slots
      → holds m.instance condition (state_of m.instance.automaton (take m.declared slots ++ more)) ≡ holds p.instance condition h.inner

-- slots that hold the host's state hold the values of the member's variables, in a state that stands for the host's
abbrev pub HeldWith : Host → Member → Type 0
HeldWith p m = (h : HostState Env) (slots : List Val) → SlotsHold p h slots
    → (s : Env) × StandsFor p h s × ((x : Name) → s x ≡ values_of (variable_names m.instance.automaton) slots x)

-- whether an entry of the automaton's signature is of such a kind
abbrev pub has_kind : (Kind → Bool) → Instance → Bool
has_kind k i = list_any (λ e. k e.kind) i.automaton.entries

-- the composition is made of the hosts, one by one; it does what they do, from their start on, its invariants are as true as theirs, and
-- it breaks the same ones first; slots hold the hosts' states just where they hold its own
pub record Simulates (h : Hosted) (c : Composed) : Type 0 where
  pub types : c.types ≡ h.types
  pub name : c.name ≡ h.name
  pub hidden : c.hidden ≡ h.hidden
  pub invariants : c.invariants ≡ h.invariants
  pub members : AllZip IsMadeOf h.hosts c.members
  pub automata : map (λ (i : Instance). i.automaton.name) (instances_of c) ≡ map (λ (i : Instance). i.automaton.name) (host_instances h)
  pub kinds : (k : Kind → Bool) → k Input ≡ false → map (has_kind k) (instances_of c) ≡ map (has_kind k) (host_instances h)
  pub like : AllLike (StandsAt h.hosts) 0 (hosts_of h) (components_of c)
  pub start : AllRelated (StandsAt h.hosts) 0 (host_starts h) (starts_of c)
  pub slots : (i : ℕ) (p : Host) (m : Member) → slice_get h.hosts i ≡ Some p → slice_get c.members i ≡ Some m → HoldsWith p m
  pub conditions : (i k : ℕ) (p : Host) (m : Member) (v : InvariantTree) → slice_get h.hosts i ≡ Some p → slice_get c.members i ≡ Some m
      → slice_get c.invariants k ≡ Some v → HoldsAlike p m v.condition
  pub held : (i : ℕ) (p : Host) (m : Member) → slice_get h.hosts i ≡ Some p → slice_get c.members i ≡ Some m → HeldWith p m
  pub broken : (n : ℕ) (hs : List (HostState Env)) (ss : List Env) → AllRelated (StandsAt h.hosts) 0 hs ss → broken_hosts h n hs ≡ broken_at c n ss

-- the composition of the rewritten components, and of those that do not crash, stands for the hosts
abbrev pub RewritingSimulates : Type 0
RewritingSimulates = (h : Hosted) → AllMayStand h → All (λ v. IsTrue (list_all spelled (names_of_expr v.condition))) h.invariants → Simulates h (composed_for h)

-- so of the hosts of a well formed source
abbrev pub HostsAreSimulated : Type 0
HostsAreSimulated = (s : SourceTree) (t : CompositionTree) (h : Hosted) → WellFormed s → LegalNames s → IsHosted s t h → Simulates h (composed_for h)

-- the instance with inputs for crash and recover
abbrev pub signalled : Host → Instance
signalled p = record p.instance { automaton = with_signals p.crash p.instance.automaton }

abbrev pub AllNamed : List Host → Type 0
AllNamed hosts = (i : ℕ) (p : Host) → slice_get hosts i ≡ Some p → IsTrue (crash_fine p.crash p.instance.automaton)

-- by these inputs hosts are compatible or not
abbrev pub SignalsDecide : Type 0
SignalsDecide = (h : Hosted) → AllNamed h.hosts
    → (Compatible (map (λ p. component_of (signalled p)) h.hosts) → Compatible (hosts_of h)) × (Compatible (hosts_of h) → Compatible (map (λ p. component_of (signalled p)) h.hosts))
