-- Why a composition is refused.
use Rattle.std.specs.Prelude.{◌≡◌, ℕ, ◌<◌, ◌⊎◌, true, false, List, take, Some, Ok, Err, slice_get}
use Rattle.std.specs.List.{list_all}
use Rattle.std.specs.String.{string_bytes}
use Rattle.ioa_arithmetic.specs.declared.arithmetic.Fault.{Fault}
use Rattle.ioa_value.specs.Actions.{Name}
use Rattle.ioa_value.specs.Plain.{Val}
use Rattle.ioa_lex.specs.declared.refusal.Refusal.{Refusal}
use Rattle.ioa_lex.specs.declared.refusal.Refusal.TheVariants.{TextTooLong, BadByte, Syntax, TooDeep, DuplicateName, UnknownName, TypeMismatch, BadSignature, NoProposal, TooMany, TooWide, ArgMismatch, CrashName, Clash, HiddenUnknown, StartFault, NoComposition, OutOfMemory}
use Rattle.ioa_tree.specs.Tree.{EntryTree, AutomatonTree, InstanceTree, CompositionTree, SourceTree}
use Rattle.ioa_tree.specs.Types.{types_of}
use Rattle.ioa_tree.specs.Instances.{Instance, Fit, argument_values, start_values, component_of}
use Rattle.ioa_tree.specs.Compositions.{automaton_named, is_output_of}
use Rattle.ioa_tree.specs.Hosts.{crash_fine}
use Rattle.ioa_compose.specs.Bindings.{IsBound, AreBound}
use Rattle.ioa_clash.specs.Clashes.{AreClashing, Before}

-- the arguments have values, and these are not of the formals' types, one for each
pub record Misfits (s : SourceTree) (i : InstanceTree) : Type 0 where
  pub automaton : AutomatonTree
  pub declared : automaton_named s i.automaton ≡ Some automaton
  pub arguments : List Val
  pub valued : argument_values (types_of s) i.arguments ≡ Ok arguments
  pub unfit : Fit (types_of s) automaton.formals arguments → ⊥

-- the arguments have values, and these are of the formals' types, one for each; but crash and recover are one name, or one of them is that
-- of an entry
pub record Misnames (s : SourceTree) (i : InstanceTree) : Type 0 where
  pub automaton : AutomatonTree
  pub declared : automaton_named s i.automaton ≡ Some automaton
  pub arguments : List Val
  pub valued : argument_values (types_of s) i.arguments ≡ Ok arguments
  pub fit : Fit (types_of s) automaton.formals arguments
  pub unfine : crash_fine i.crash automaton ≡ false

-- a start expression faults
pub record StartsWith (s : SourceTree) (i : InstanceTree) (f : Fault) : Type 0 where
  pub instance : Instance
  pub bound : IsBound s i instance
  pub faulting : start_values instance ≡ Err f

-- two instances clash on an action of this name
abbrev pub Clashing : Name → Instance → Instance → Type 0
Clashing name m n = AreClashing name (component_of m) (component_of n)

-- of the first one's entries none before that of this name has an action on which they clash
abbrev pub IsFirstEntry : Name → Instance → Instance → Type 0
IsFirstEntry name m n = (k l : ℕ) (e d : EntryTree) → slice_get m.automaton.entries k ≡ Some e → e.name ≡ name → l < k → slice_get m.automaton.entries l ≡ Some d → Clashing d.name m n → ⊥

pub record ClashOn (s : SourceTree) (i j : InstanceTree) (name : Name) : Type 0 where
  pub first : Instance
  pub second : Instance
  pub first_bound : IsBound s i first
  pub second_bound : IsBound s j second
  pub clash : Clashing name first second

-- no pair before these two clashes
abbrev pub NoClashBefore : SourceTree → List InstanceTree → ℕ → ℕ → Type 0
NoClashBefore s is i j = (k l : ℕ) (m n : InstanceTree) (name : Name) → Before k l i j → slice_get is k ≡ Some m → slice_get is l ≡ Some n → ClashOn s m n name → ⊥

-- no two components clash
abbrev pub NoClash : SourceTree → List InstanceTree → Type 0
NoClash s is = (i j : ℕ) (m n : InstanceTree) (name : Name) → i < j → slice_get is i ≡ Some m → slice_get is j ≡ Some n → ClashOn s m n name → ⊥

-- each component has its instance: its arguments have values, and these fit
abbrev pub AllBound : SourceTree → List InstanceTree → Type 0
AllBound s is = (ns : List Instance) × AreBound s is ns

-- each component has its instance, and each hidden name is the name of an output of one of these
abbrev pub HidesOutputs : SourceTree → CompositionTree → Type 0
HidesOutputs s t = (ns : List Instance) × AreBound s t.instances ns × (list_all (is_output_of ns) t.hidden ≡ true)

-- the name is the first of the hidden ones that is the name of no output of these instances
abbrev pub IsFirstUnknown : List Instance → List Name → Name → Type 0
IsFirstUnknown ns hidden x = (k : ℕ) × (slice_get hidden k ≡ Some x) × (is_output_of ns x ≡ false) × (list_all (is_output_of ns) (take k hidden) ≡ true)

-- each component has its instance, and the name is the first hidden one that is the name of no output of these
abbrev pub HidesNoOutput : SourceTree → CompositionTree → Name → Type 0
HidesNoOutput s t x = (ns : List Instance) × AreBound s t.instances ns × IsFirstUnknown ns t.hidden x

-- what composing can refuse
pub data Reason : Type 0 where
  misfit : ℕ → Reason
  faulty : ℕ → Fault → Reason
  misnamed : ℕ → Reason
  clashing : ℕ → ℕ → Name → Reason
  hiding : Name → Reason
  no_memory : Reason
  other : Reason

abbrev pub reason_of : Refusal → Reason
reason_of (ArgMismatch i) = misfit i
reason_of (StartFault i f) = faulty i f
reason_of (Clash i j name) = clashing i j (string_bytes name)
reason_of OutOfMemory = no_memory
reason_of TextTooLong = other
reason_of (BadByte line) = other
reason_of (Syntax line) = other
reason_of (TooDeep line) = other
reason_of (DuplicateName line) = other
reason_of (UnknownName line) = other
reason_of (TypeMismatch line) = other
reason_of (BadSignature line) = other
reason_of (NoProposal line) = other
reason_of (TooMany line) = other
reason_of (TooWide line) = other
reason_of (CrashName i) = misnamed i
reason_of (HiddenUnknown name) = hiding (string_bytes name)
reason_of NoComposition = other

-- one of the components has no instance: one of its arguments faults, or they are not those of its formals, or crash and recover have no
-- names of their own. It is the first such one: each before it has its instance.
abbrev pub IsUnbound : SourceTree → List InstanceTree → Reason → Type 0
IsUnbound s is (misfit i) = (n : InstanceTree) × (slice_get is i ≡ Some n) × Misfits s n × AllBound s (take i is)
IsUnbound s is (faulty i f) = (n : InstanceTree) × (slice_get is i ≡ Some n) × (argument_values (types_of s) n.arguments ≡ Err f) × AllBound s (take i is)
IsUnbound s is (misnamed i) = (n : InstanceTree) × (slice_get is i ≡ Some n) × Misnames s n × AllBound s (take i is)
IsUnbound s is (clashing i j name) = ⊥
IsUnbound s is (hiding name) = ⊥
IsUnbound s is no_memory = Unit {0}
IsUnbound s is other = ⊥

-- no start expression of a component before this one faults
abbrev pub IsFirstFault : SourceTree → List InstanceTree → ℕ → Type 0
IsFirstFault s is i = (k : ℕ) (m : InstanceTree) (f : Fault) → k < i → slice_get is k ≡ Some m → StartsWith s m f → ⊥

-- a start expression of one of the components faults: of the first such one
abbrev pub StartFaults : SourceTree → List InstanceTree → ℕ → Fault → Type 0
StartFaults s is i f = (n : InstanceTree) × (slice_get is i ≡ Some n) × StartsWith s n f × IsFirstFault s is i

-- two of the components clash: the first two, on the first entry
abbrev pub TwoClash : SourceTree → List InstanceTree → ℕ → ℕ → Name → Type 0
TwoClash s is i j name = (m : InstanceTree) × (n : InstanceTree) × (i < j) × (slice_get is i ≡ Some m) × (slice_get is j ≡ Some n) × (c : ClashOn s m n name) × NoClashBefore s is i j × IsFirstEntry name c.first c.second

-- what holds of a composition that is refused so: a clash is told only where each component has its instance, a hidden name that is
-- no output's only where no components clash too, and a start expression's fault only where all hidden names are outputs' too
abbrev pub IsRefusedFor : SourceTree → CompositionTree → Reason → Type 0
IsRefusedFor s t (misfit i) = IsUnbound s t.instances (misfit i)
IsRefusedFor s t (faulty i f) = IsUnbound s t.instances (faulty i f) ⊎ (StartFaults s t.instances i f × NoClash s t.instances × HidesOutputs s t)
IsRefusedFor s t (misnamed i) = IsUnbound s t.instances (misnamed i)
IsRefusedFor s t (clashing i j name) = TwoClash s t.instances i j name × AllBound s t.instances
IsRefusedFor s t (hiding name) = HidesNoOutput s t name × NoClash s t.instances
IsRefusedFor s t no_memory = Unit {0}
IsRefusedFor s t other = ⊥

abbrev pub IsRefused : SourceTree → CompositionTree → Refusal → Type 0
IsRefused s t r = IsRefusedFor s t (reason_of r)

-- what holds of one component that is refused in its place, before it starts
abbrev pub IsRefusedAt : SourceTree → ℕ → InstanceTree → Reason → Type 0
IsRefusedAt s k n (misfit i) = (i ≡ k) × Misfits s n
IsRefusedAt s k n (faulty i f) = (i ≡ k) × (argument_values (types_of s) n.arguments ≡ Err f)
IsRefusedAt s k n (misnamed i) = (i ≡ k) × Misnames s n
IsRefusedAt s k n (clashing i j name) = ⊥
IsRefusedAt s k n (hiding name) = ⊥
IsRefusedAt s k n no_memory = Unit {0}
IsRefusedAt s k n other = ⊥

-- the start of the instance in this place faults
abbrev pub FaultsAt : ℕ → Instance → Reason → Type 0
FaultsAt k n (misfit i) = ⊥
FaultsAt k n (faulty i f) = (i ≡ k) × (start_values n ≡ Err f)
FaultsAt k n (misnamed i) = ⊥
FaultsAt k n (clashing i j name) = ⊥
FaultsAt k n (hiding name) = ⊥
FaultsAt k n no_memory = Unit {0}
FaultsAt k n other = ⊥

-- no start of an instance before this one faults
abbrev pub NoneFaults : List Instance → ℕ → Type 0
NoneFaults ns i = (k : ℕ) (m : Instance) (f : Fault) → k < i → slice_get ns k ≡ Some m → start_values m ≡ Err f → ⊥

-- the start of one of the instances faults: of the first such one
abbrev pub FaultsIn : List Instance → Reason → Type 0
FaultsIn ns (misfit i) = ⊥
FaultsIn ns (faulty i f) = (n : Instance) × (slice_get ns i ≡ Some n) × (start_values n ≡ Err f) × NoneFaults ns i
FaultsIn ns (misnamed i) = ⊥
FaultsIn ns (clashing i j name) = ⊥
FaultsIn ns (hiding name) = ⊥
FaultsIn ns no_memory = Unit {0}
FaultsIn ns other = ⊥

-- no two of the instances before these two clash
abbrev pub NoneClashes : List Instance → ℕ → ℕ → Type 0
NoneClashes ns i j = (k l : ℕ) (m n : Instance) (name : Name) → Before k l i j → slice_get ns k ≡ Some m → slice_get ns l ≡ Some n → Clashing name m n → ⊥

-- no two of the instances clash
abbrev pub NoneClash : List Instance → Type 0
NoneClash ns = (k l : ℕ) (m n : Instance) (name : Name) → k < l → slice_get ns k ≡ Some m → slice_get ns l ≡ Some n → Clashing name m n → ⊥

-- two of the instances clash, and none before them
abbrev pub ClashesIn : List Instance → Reason → Type 0
ClashesIn ns (misfit i) = ⊥
ClashesIn ns (faulty i f) = ⊥
ClashesIn ns (misnamed i) = ⊥
ClashesIn ns (clashing i j name) = (m : Instance) × (n : Instance) × (i < j) × (slice_get ns i ≡ Some m) × (slice_get ns j ≡ Some n) × Clashing name m n × NoneClashes ns i j × IsFirstEntry name m n
ClashesIn ns (hiding name) = ⊥
ClashesIn ns no_memory = Unit {0}
ClashesIn ns other = ⊥

-- a clash is told
abbrev pub TellsClash : Reason → Type 0
TellsClash r = (i : ℕ) × (j : ℕ) × (name : Name) × (r ≡ clashing i j name)

-- one of the hidden names is the name of no output of the instances: the first such name
abbrev pub HidesIn : List Instance → List Name → Reason → Type 0
HidesIn ns hidden (misfit i) = ⊥
HidesIn ns hidden (faulty i f) = ⊥
HidesIn ns hidden (misnamed i) = ⊥
HidesIn ns hidden (clashing i j name) = ⊥
HidesIn ns hidden (hiding name) = IsFirstUnknown ns hidden name
HidesIn ns hidden no_memory = Unit {0}
HidesIn ns hidden other = ⊥
