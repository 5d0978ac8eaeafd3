-- The states of components by the source's names: lines of text, for people.
use Rattle.std.specs.Prelude.{◌++◌, ◌∷◌, [], ℕ, if◌then◌else◌, nat_lt, not, Bool, false, List, Option, Some, None, codes, slice_get}
use Rattle.std.specs.List.{flat_map}
use Rattle.std.specs.Option.{option_map_or}
use Rattle.ioa_value.specs.Actions.{Name}
use Rattle.ioa_value.specs.Plain.{Val, truth, num, name, tuple, items}
use Rattle.ioa_value.specs.Table.{Table}
use Rattle.ioa_value.specs.Written.{written_value}
use Rattle.ioa_tree.specs.Compositions.{Member}
use Rattle.ioa_tree.specs.Hosts.{Host, HostState}
use Rattle.ioa_tree.specs.Meaning.{Env}
use Rattle.ioa_tree.specs.Tree.{CrashTree, VariableTree}
use Rattle.ioa_picture.specs.Lines.{numbered}

-- ---- of hosts

-- a component's variable and its value, as it is written in an action
abbrev pub value_line : Table → Name → Name → Val → List ℕ
value_line types component x v = component ++ (codes "." ++ (x ++ (codes " = " ++ (written_value types v ++ codes "\n"))))

-- a declared variable in this state, in which each has a value
abbrev pub variable_line : Table → Name → Env → VariableTree → List ℕ
variable_line types component s v = option_map_or (value_line types component v.field.name) (s v.field.name) []

-- of a component that crashes and recovers, whether it is up
abbrev pub up_line : Table → Name → Option CrashTree → Bool → List ℕ
up_line types component None up = []
up_line types component (Some names) up = value_line types component (codes "up") (truth up)

-- the variables in the order of their declaration, and then whether it is up
abbrev pub host_lines : Table → Host → HostState Env → List ℕ
host_lines types p h = flat_map (variable_line types p.name h.inner) p.instance.automaton.variables ++ up_line types p.name p.crash h.up

-- those of each component, in their order
abbrev pub state_lines : Table → List Host → List (HostState Env) → List ℕ
state_lines types [] hs = []
state_lines types (p ∷ ps) [] = []
state_lines types (p ∷ ps) (h ∷ hs) = host_lines types p h ++ state_lines types ps hs

-- those of the component of this number, where there is one
abbrev pub component_lines : Table → List Host → List (HostState Env) → ℕ → List ℕ
component_lines types ps hs i = option_map_or (λ h. option_map_or (λ p. host_lines types p h) (slice_get ps i) []) (slice_get hs i) []

-- the component of this number is down
abbrev pub is_down : List Host → List (HostState Env) → ℕ → Bool
is_down ps hs i = option_map_or (λ (h : HostState Env). option_map_or (λ (p : Host). not h.up) (slice_get ps i) false) (slice_get hs i) false

-- ---- of slots

-- the name of the component's variable that this slot holds: one that is declared, or behind these whether it is up
abbrev pub slot_name : Member → ℕ → Name
slot_name m i = option_map_or (λ (v : VariableTree). if nat_lt i m.declared then v.field.name else codes "up") (slice_get m.instance.automaton.variables i) (codes "up")

abbrev pub slot_line : Table → Member → ℕ → Val → List ℕ
slot_line types m i v = value_line types m.name (slot_name m i) v

abbrev pub slot_lines : Table → Option Member → List Val → List ℕ
slot_lines types None vs = []
slot_lines types (Some m) vs = numbered (slot_line types m) 0 vs

-- those of the component of this number
abbrev pub slots_in : Table → List Member → ℕ → List Val → List ℕ
slots_in types ms i vs = slot_lines types (slice_get ms i) vs

-- the same, where its slots are among these
abbrev pub slots_at : Table → List Member → List (List Val) → ℕ → List ℕ
slots_at types ms vss i = option_map_or (slots_in types ms i) (slice_get vss i) []

-- the value tells that a component is down
abbrev pub tells_down : Val → Bool
tells_down (truth up) = not up
tells_down (num z) = false
tells_down (name ty n) = false
tells_down (tuple ty vs) = false
tells_down (items ty vs) = false

-- a component is down: behind its declared variables stands whether it is up, where it crashes and recovers
abbrev pub is_down_by : Member → List Val → Bool
is_down_by m vs = option_map_or tells_down (slice_get vs m.declared) false

abbrev pub is_down_of : Option Member → List Val → Bool
is_down_of None vs = false
is_down_of (Some m) vs = is_down_by m vs

-- the one of this number
abbrev pub is_down_in_slots : List Member → ℕ → List Val → Bool
is_down_in_slots ms i vs = is_down_of (slice_get ms i) vs

abbrev pub is_down_at : List Member → List (List Val) → ℕ → Bool
is_down_at ms vss i = option_map_or (is_down_in_slots ms i) (slice_get vss i) false
