-- What is told of how a run ends, and of how much was asked of it.
use Rattle.std.specs.Prelude.{◌≡◌, ◌⊎◌, ◌+◌, ◌-◌, ◌++◌, ◌==◌, ◌&&◌, ℕ, zero, suc, Bool, false, not, if◌then◌else◌, List, [], Option, Some, None, codes, filter, length, slice_get, string_bytes, take}
use Rattle.std.specs.Fmt.{decimal}
use Rattle.std.specs.List.{list_any}
use Rattle.std.specs.Option.{option_map_or}
use Rattle.ioa_arithmetic.specs.Arithmetic.{fault_number}
use Rattle.ioa_arithmetic.specs.declared.arithmetic.Fault.{Fault}
use Rattle.ioa_value.specs.Actions.{Act, Name}
use Rattle.ioa_value.specs.Table.{Table}
use Rattle.ioa_tree.specs.Components.{Component, has}
use Rattle.ioa_tree.specs.Hosts.{HostState, Hosted, first_broken_host, host_instances, host_starts, hosts_of}
use Rattle.ioa_tree.specs.Meaning.{Env}
use Rattle.ioa_tree.specs.Invariants.{Broken}
use Rattle.ioa_tree.specs.declared.tree.Invariant.{Invariant}
use Rattle.ioa_tree.specs.Runs.{Ending, done, not_an_action_at, not_enabled_at, fault_at, run}
use Rattle.ioa_compose.specs.declared.composition.Composition.{Composition}
use Rattle.ioa_compose.specs.Held.{composed_of}
use Rattle.ioa_compose.specs.Simulates.{Simulates}
use Rattle.ioa_system.specs.Endings.{ending_text}
use Rattle.ioa_system.specs.Logs.{Logged, actions_of, is_fault}
use Rattle.ioa_system.specs.Outcomes.{ending_of}
use Rattle.ioa_monitor.specs.Monitoring.{IsHiding, monitored}
use Rattle.ioa_log.specs.Judging.{agrees, judged}
use Rattle.ioa_account.specs.declared.ends.Account.{Account}
use Rattle.ioa_account.specs.declared.remarks.Told.{Told}
use Rattle.ioa_account.specs.Accounts.{IsAccount, TellsLine, action_text, fault_words, name_at}
use Rattle.ioa_account.specs.Counts.{asked_invariants, known_actions}
use Rattle.ioa_account.specs.Ends.{index_in}
use Rattle.ioa_account.specs.Faults.{invariant_fault}
use Rattle.ioa_account.specs.Lines.{line_of_action}
use Rattle.ioa_account.specs.Quoted.{line_text, transition_text}
use Rattle.ioa_account.specs.States.{component_lines}

-- ---- why a run ends before all its actions are performed

-- it is the account of the composition's run over these actions
abbrev pub IsAccountOf : Composition → List Act → Option Account → Type 0
IsAccountOf c acts told = ((h : Hosted) → Simulates h (composed_of c) → IsAccount h acts told) × TellsLine c.members acts told

-- a sentence, the transition as it stands in the source, and the variables of its component
abbrev pub account_text : Told → Account → List ℕ
account_text t a = string_bytes a.why ++ (codes "\n" ++ (transition_text t.file.now t.source.now a.line ++ string_bytes a.states))

-- behind the line of the action; nothing, where all are performed
abbrev pub end_text : Told → (ℕ → List ℕ) → Option Account → List ℕ
end_text t line None = []
end_text t line (Some a) = line a.index ++ account_text t a

-- the line of a list, or of a log, that has the action of this index
abbrev pub list_line : Told → ℕ → List ℕ
list_line t i = option_map_or (line_text (codes "list") t.input.now) (line_of_action t.input.now i) []

abbrev pub log_line : Told → ℕ → List ℕ
log_line t i = line_text (codes "log") t.input.now (i + 1)

abbrev pub no_line : ℕ → List ℕ
no_line i = []

-- why the composition's run over these actions ends is put behind what stands there
abbrev pub TellsEnd : Told → (ℕ → List ℕ) → List Act → List ℕ → List ℕ → Type 0
TellsEnd t line acts before after = (o : Option Account) × IsAccountOf t.composition.now acts o × (after ≡ before ++ end_text t line o)

-- ---- of a log that is not of the composition's run

-- the run over so many actions ends by a fault of the last one
abbrev pub faults_last : ℕ → Ending → Bool
faults_last count (done n) = false
faults_last count (not_an_action_at i) = false
faults_last count (not_enabled_at i) = false
faults_last count (fault_at c f i) = i == count - 1

-- the run's end, where the log tells that the last action faults, and it does, but otherwise
abbrev pub other_fault : ℕ → Ending → Ending → List ℕ
other_fault count end own = if is_fault end && faults_last count own then codes "the run's end is: " ++ (ending_text own ++ codes "\n") else []

-- an action of this text is performed, which the log tells to fault
abbrev pub performed_text : List ℕ → List ℕ
performed_text action = codes "the log says that " ++ (action ++ codes " faults, and it is performed\n")

-- the one of this index
abbrev pub last_performed : Table → List Act → ℕ → List ℕ
last_performed types acts last = performed_text (action_text types acts last)

-- so many actions are performed, and the log tells another end
abbrev pub own_end : ℕ → List ℕ
own_end count = codes "all actions of the log are performed, so that the run's end is: " ++ (ending_text (done count) ++ codes "\n")

-- all actions are performed: but the log tells that the last one faults, or another number of them
abbrev pub all_performed : Table → List Act → Ending → List ℕ
all_performed types acts end = if is_fault end && not (length acts == 0) then last_performed types acts (length acts - 1) else own_end (length acts)

-- why the run over the log's actions ends, or that they are all performed; and how the log's end differs, where it is this that does
abbrev pub difference_text : Told → List Act → Ending → Option Account → List ℕ
difference_text t acts end None = all_performed t.composition.now.types acts end
difference_text t acts end (Some a) = other_fault (length acts) end (ending_of a.end) ++ account_text t a

abbrev pub TellsDifference : Told → List Act → Ending → List ℕ → List ℕ → Type 0
TellsDifference t acts end before after = (o : Option Account) × IsAccountOf t.composition.now acts o × (after ≡ before ++ difference_text t acts end o)

-- ---- of a monitor

-- those of the actions that some component has
abbrev pub known_among : {S : Type 0} → List (Component S) → List Act → List Act
known_among ps acts = filter (λ a. list_any (has a) ps) acts

-- so many of so many actions
abbrev pub known_text : ℕ → ℕ → List ℕ
known_text zero all = codes "the specification has 0 of " ++ (decimal all ++ codes " actions of the log: nothing was specified\n")
known_text (suc k) all = codes "the specification has " ++ (decimal (suc k) ++ (codes " of " ++ (decimal all ++ codes " actions of the log\n")))

-- the log's action that is not accepted, and why the run over those that are known ends; nothing, where all are accepted
abbrev pub TellsRefusal : Told → Hosted → List Act → Option Ending → List ℕ → List ℕ → Type 0
TellsRefusal t h acts None before after = after ≡ before
TellsRefusal t h acts (Some e) before after =
    (i : ℕ) × (index_in e ≡ Some i) × TellsEnd t no_line (known_among (hosts_of h) acts) (before ++ log_line t i) after

-- behind how many the specification has; of one that hides actions no more is told
abbrev pub TellsMonitored : Told → Hosted → List Act → List ℕ → List ℕ → Type 0
TellsMonitored t h acts before after =
    let told = before ++ known_text (known_actions (hosts_of h) acts) (length acts) in
    (IsHiding h × (after ≡ told)) ⊎ TellsRefusal t h acts (monitored (hosts_of h) acts (host_starts h)) told after

-- ---- of invariants

-- so many are asked in each of so many states
abbrev pub asked_text : ℕ → ℕ → List ℕ
asked_text zero states = codes "no invariant is declared of a component's automaton: nothing was asked\n"
asked_text (suc k) states = codes "invariants asked: " ++ (decimal (suc k) ++ (codes " in each of " ++ (decimal states ++ codes " states\n")))

-- in how many: in all of the run, or in those up to the one in which the first is broken
abbrev pub states_asked : Hosted → List Act → Option Broken → ℕ
states_asked h acts None = (run (hosts_of h) acts (host_starts h)).performed + 1
states_asked h acts (Some b) = b.state + 1

-- an invariant of the component of this name is false then, or has this fault
abbrev pub broken_of : List ℕ → Name → Option Fault → List ℕ
broken_of when x None = when ++ (codes " an invariant of " ++ (x ++ codes " is broken:\n"))
broken_of when x (Some f) = when ++ (codes " an invariant of " ++ (x ++ (codes " has fault " ++ (decimal (fault_number f) ++ (codes ": " ++ (fault_words f ++ codes "\n"))))))

-- in which state it is so: in the first, or after an action of the log
abbrev pub broken_after : Told → ℕ → Name → Option Fault → List ℕ
broken_after t zero x f = broken_of (codes "in the first state") x f
broken_after t (suc n) x f = log_line t n ++ broken_of (codes "after this action") x f

-- the invariant of this number as it stands in the source
abbrev pub invariant_text : Told → ℕ → List ℕ
invariant_text t k = option_map_or (λ (v : Invariant). transition_text t.file.now t.source.now v.automaton.line) (slice_get t.composition.now.invariants k) []

-- the states of the hosts after so many of the actions
abbrev pub states_before : Hosted → List Act → ℕ → List (HostState Env)
states_before h acts count = (run (hosts_of h) (take count acts) (host_starts h)).states

-- its fault there, if it has one, and the variables of the component that breaks it
abbrev pub broken_fault : Hosted → List Act → Broken → Option Fault
broken_fault h acts b = invariant_fault h (states_before h acts b.state) b.component b.invariant

abbrev pub broken_state : Hosted → List Act → Broken → List ℕ
broken_state h acts b = component_lines h.types h.hosts (states_before h acts b.state) b.component

abbrev pub broken_text : Told → Hosted → List Act → Broken → List ℕ
broken_text t h acts b =
    broken_after t b.state (name_at h.hosts b.component) (broken_fault h acts b) ++ (invariant_text t b.invariant ++ broken_state h acts b)

-- when and where it is broken, by which fault, if by one, what it says, and in which state; where none is, how the log ends
abbrev pub TellsBroken : Told → Hosted → List Act → Option Broken → List ℕ → List ℕ → Type 0
TellsBroken t h acts None before after = TellsEnd t (log_line t) acts before after
TellsBroken t h acts (Some b) before after = after ≡ before ++ broken_text t h acts b

-- of a log that is of the hosts' run
abbrev pub TellsInspected : Told → Hosted → Logged → List ℕ → List ℕ → Type 0
TellsInspected t h log before after =
    judged (hosts_of h) (host_starts h) log ≡ agrees
    → TellsBroken t h (actions_of log) (first_broken_host h (actions_of log))
    (before ++ asked_text (asked_invariants h.invariants (host_instances h)) (states_asked h (actions_of log) (first_broken_host h (actions_of log)))) after
