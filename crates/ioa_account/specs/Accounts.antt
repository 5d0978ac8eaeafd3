-- Why a run ends before all its actions are performed, in the words that people are told.
use Rattle.std.specs.Prelude.{◌≡◌, ◌++◌, ℕ, Bool, true, false, List, [], Option, Some, None, codes, find, IfSome, slice_get, string_bytes}
use Rattle.std.specs.Fmt.{decimal}
use Rattle.std.specs.Option.{option_map_or}
use Rattle.std.specs.Str.{bytes_eq}
use Rattle.ioa_arithmetic.specs.Arithmetic.{fault_number}
use Rattle.ioa_arithmetic.specs.declared.arithmetic.Fault.{Fault}
use Rattle.ioa_value.specs.Actions.{Act, Name}
use Rattle.ioa_value.specs.Table.{Table}
use Rattle.ioa_value.specs.Written.{written_action}
use Rattle.ioa_tree.specs.Components.{Component}
use Rattle.ioa_tree.specs.Hosts.{Host, HostState, Hosted, hosts_of, host_starts}
use Rattle.ioa_tree.specs.Meaning.{Env}
use Rattle.ioa_tree.specs.declared.tree.Transition.{Transition}
use Rattle.ioa_tree.specs.Runs.{Ending, Reached, done, not_an_action_at, not_enabled_at, fault_at, run}
use Rattle.ioa_compose.specs.declared.member.Member.{Member}
use Rattle.ioa_system.specs.Outcomes.{ending_of}
use Rattle.ioa_system.specs.Preconditions.{precondition_faults}
use Rattle.ioa_account.specs.declared.ends.Account.{Account}
use Rattle.ioa_account.specs.Ends.{component_in, index_in}
use Rattle.ioa_account.specs.States.{component_lines, is_down}

-- the text of the action of this index
abbrev pub action_text : Table → List Act → ℕ → List ℕ
action_text types acts i = option_map_or (written_action types) (slice_get acts i) []

-- why an action is not enabled, by the name of its owner: this is down, or its precondition is false
abbrev pub blocked : Bool → List ℕ → Name → List ℕ
blocked true action x = x ++ (codes " is down, so that " ++ (action ++ codes " is not enabled"))
blocked false action x = codes "the precondition of " ++ (action ++ (codes " in " ++ (x ++ codes " is false")))

-- what a fault is
abbrev pub fault_words : Fault → List ℕ
fault_words Fault.Overflow = codes "the result does not fit 64 bits"
fault_words Fault.ZeroDivisor = codes "the divisor is 0"
fault_words Fault.Empty = codes "the sequence is empty"
fault_words Fault.OutOfRange = codes "the index is not from 0 to less than the sequence's length"
fault_words Fault.Full = codes "the sequence is full"

-- what of a transition faults
abbrev pub part_words : Bool → List ℕ
part_words true = codes "precondition"
part_words false = codes "effect"

-- why, by the name of that component, and by whether it is down, and its precondition faults
abbrev pub why : Table → List Act → Name → Bool → Bool → Ending → List ℕ
why types acts x down early (done n) = []
why types acts x down early (not_an_action_at i) = codes "no component has " ++ action_text types acts i
why types acts x down early (not_enabled_at i) = blocked down (action_text types acts i) x
why types acts x down early (fault_at c f i) =
    codes "fault "
    ++ (decimal (fault_number f) ++ (codes " in the " ++ (part_words early ++ (codes " of " ++ (action_text types acts i ++ (codes " in " ++ (x ++ (codes ": " ++ fault_words f))))))))

-- the component's name
abbrev pub name_at : List Host → ℕ → Name
name_at ps i = option_map_or (λ (p : Host). p.name) (slice_get ps i) []

abbrev pub name_of : List Host → Option ℕ → Name
name_of ps None = []
name_of ps (Some i) = name_at ps i

-- the component's lines in these states
abbrev pub lines_of : Table → List Host → List (HostState Env) → Option ℕ → List ℕ
lines_of types ps hs None = []
lines_of types ps hs (Some i) = component_lines types ps hs i

-- it is down in these states
abbrev pub is_down_in : List Host → List (HostState Env) → Option ℕ → Bool
is_down_in ps hs None = false
is_down_in ps hs (Some i) = is_down ps hs i

-- in these states the precondition of the owner of the action of this index faults
abbrev pub faults_early : {S : Type 0} → List (Component S) → List Act → ℕ → List S → Bool
faults_early ps acts i ss = option_map_or (λ (a : Act). precondition_faults ps a ss) (slice_get acts i) false

-- the account tells how and why the hosts' run over these actions, which reaches this, ends
pub record AccountsFor (h : Hosted) (acts : List Act) (r : Reached (HostState Env)) (a : Account) : Type 0 where
  pub end : ending_of a.end ≡ r.ending
  pub index : index_in r.ending ≡ Some a.index
  pub component : a.component ≡ component_in (hosts_of h) acts r.ending
  pub why : string_bytes a.why ≡ why h.types acts (name_of h.hosts a.component) (is_down_in h.hosts r.states a.component) (faults_early (hosts_of h) acts a.index r.states) r.ending
  pub states : string_bytes a.states ≡ lines_of h.types h.hosts r.states a.component

-- there is one just where the run ends before all its actions are performed
abbrev pub IsAccount : Hosted → List Act → Option Account → Type 0
IsAccount h acts None = index_in (run (hosts_of h) acts (host_starts h)).ending ≡ None
IsAccount h acts (Some a) = AccountsFor h acts (run (hosts_of h) acts (host_starts h)) a

-- ---- lines, which the trees do not keep

-- the line of the first of these transitions that has the name
abbrev pub transition_line : List Transition → Name → ℕ
transition_line ts x = option_map_or (λ (t : Transition). t.name.line) (find (λ (t : Transition). bytes_eq (string_bytes t.name.text) x) ts) 0

-- the same of the transitions of the component of this number
abbrev pub line_at : List Member → Name → ℕ → ℕ
line_at ms x i = option_map_or (λ (m : Member). transition_line m.automaton.transitions.items x) (slice_get ms i) 0

-- the line in which the component's transition of the action of this index begins; 0 where there is none
abbrev pub line_of : List Member → List Act → ℕ → Option ℕ → ℕ
line_of ms acts i None = 0
line_of ms acts i (Some c) = option_map_or (λ (a : Act). line_at ms a.name c) (slice_get acts i) 0

-- the account tells this line
abbrev pub TellsLine : List Member → List Act → Option Account → Type 0
TellsLine ms acts told = IfSome told (λ a. a.line ≡ line_of ms acts a.index a.component)
