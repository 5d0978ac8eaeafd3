-- What a replay writes where it is asked to tell of the states in which it ends: the trace and the end, and then each component's variables, or what is
-- enabled, or both.
use Rattle.std.specs.Prelude.{◌≡◌, ◌++◌, ℕ, List, Option, take}
use Rattle.std.specs.Io.KnownBytes.{Appends}
use Rattle.ioa_value.specs.Actions.{Act}
use Rattle.ioa_value.specs.Lists.{ReadsList}
use Rattle.ioa_tree.specs.Hosts.{HostState, Hosted, hosts_of, host_starts}
use Rattle.ioa_tree.specs.Meaning.{Env}
use Rattle.ioa_tree.specs.Runs.{Ending, run}
use Rattle.ioa_compile.specs.Subjects.{of_hosts}
use Rattle.ioa_system.specs.Logs.{Logged, actions_of}
use Rattle.ioa_log.specs.Replays.{run_text}
use Rattle.ioa_request.specs.declared.shown.Shown.{Shown}
use Rattle.ioa_account.specs.States.{state_lines}
use Rattle.ioa_enabled.specs.Told.{enabled_lines}
use Rattle.ioa_serving.specs.Logs.{IsRunLog}

-- what is told of the hosts' states: each variable, what is enabled, or both
abbrev pub shown_lines : Hosted → Shown → List (HostState Env) → List ℕ
shown_lines h Shown.States hs = state_lines h.types h.hosts hs
shown_lines h Shown.Enabled hs = enabled_lines h.types h.hosts hs
shown_lines h Shown.Both hs = state_lines h.types h.hosts hs ++ enabled_lines h.types h.hosts hs

-- the text of the hosts' run over these actions, and what is told of the states that the run reaches
abbrev pub states_text : Hosted → Shown → List Act → List ℕ
states_text h shown acts =
    run_text h.types h.hidden (hosts_of h) (host_starts h) acts ++ shown_lines h shown (run (hosts_of h) acts (host_starts h)).states

-- the end and the text of the hosts' run over the list that these bytes are
abbrev pub Reaches : Hosted → Shown → List ℕ → Ending → List ℕ → Type 0
Reaches h shown bytes end text =
    (acts : List Act) × ReadsList h.types bytes acts × (end ≡ (run (hosts_of h) acts (host_starts h)).ending) × (text ≡ states_text h shown acts)

-- the same of the log that they are, which is of the hosts' run
abbrev pub ReachesByLog : Hosted → Shown → List ℕ → Ending → List ℕ → Type 0
ReachesByLog h shown bytes end text =
    (log : Logged) × IsRunLog (of_hosts h) bytes log × (end ≡ (run (hosts_of h) (actions_of log) (host_starts h)).ending) × (text ≡ states_text h shown (actions_of log))

-- it is written; or a beginning of it
abbrev pub ReplaysStates : Hosted → Shown → List ℕ → Ending → Option (List ℕ) → Option (List ℕ) → Type 0
ReplaysStates h shown bytes end before after = (text : List ℕ) × Reaches h shown bytes end text × Appends before after text

abbrev pub BeginsStates : Hosted → Shown → List ℕ → Option (List ℕ) → Option (List ℕ) → Type 0
BeginsStates h shown bytes before after = (end : Ending) × (text : List ℕ) × Reaches h shown bytes end text × ((k : ℕ) × Appends before after (take k text))

abbrev pub ReplaysLogStates : Hosted → Shown → List ℕ → Ending → Option (List ℕ) → Option (List ℕ) → Type 0
ReplaysLogStates h shown bytes end before after = (text : List ℕ) × ReachesByLog h shown bytes end text × Appends before after text

abbrev pub BeginsLogStates : Hosted → Shown → List ℕ → Option (List ℕ) → Option (List ℕ) → Type 0
BeginsLogStates h shown bytes before after = (end : Ending) × (text : List ℕ) × ReachesByLog h shown bytes end text × ((k : ℕ) × Appends before after (take k text))
