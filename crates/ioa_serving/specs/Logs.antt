-- What a replay of a log writes, also where it is asked for invariants, and what a monitor of one.
use Rattle.std.specs.Prelude.{◌≡◌, ℕ, ◌++◌, ◌∷◌, [], Bool, true, false, List, take, codes, Option, Some, None}
use Rattle.std.specs.Fmt.{decimal}
use Rattle.std.specs.Io.KnownBytes.{Appends}
use Rattle.std.specs.Option.{option_map_or}
use Rattle.ioa_tree.specs.Hosts.{Hosted, hosts_of, host_starts, first_broken_host}
use Rattle.ioa_tree.specs.Invariants.{Broken}
use Rattle.ioa_tree.specs.Runs.{Ending, run}
use Rattle.ioa_compile.specs.Subjects.{Subject, its_components, its_hidden, its_starts, its_types, of_hosts}
use Rattle.ioa_system.specs.Outcomes.{ending_of}
use Rattle.ioa_system.specs.Endings.{ending_text}
use Rattle.ioa_system.specs.Logs.{Logged, actions_of}
use Rattle.ioa_monitor.specs.Monitoring.{IsOpen, monitored}
use Rattle.ioa_log.specs.Judging.{agrees, judged}
use Rattle.ioa_log.specs.LogTexts.{ReadsLog}
use Rattle.ioa_log.specs.Replays.{run_text}
use Rattle.ioa_inspect.specs.Breaking.{broken_of}
pub use Rattle.ioa_inspect.specs.LogMonitors.{performed_in}
use Rattle.ioa_serving.specs.declared.invariant_replay.Finding.{Finding}
use Rattle.ioa_serving.specs.Json.{answer_json, verdict_line}

-- the bytes are a text of this log, and it is of the run that the subject does
abbrev pub IsRunLog : Subject → List ℕ → Logged → Type 0
IsRunLog s bytes log = ReadsLog (its_types s) bytes log × (judged (its_components s) (its_starts s) log ≡ agrees)

-- the text of its run over the log's actions
abbrev pub log_run_text : Subject → Logged → List ℕ
log_run_text s log = run_text (its_types s) (its_hidden s) (its_components s) (its_starts s) (actions_of log)

-- the end is the run's, and the run's text is written
abbrev pub ReplaysLog : Subject → List ℕ → Ending → Option (List ℕ) → Option (List ℕ) → Type 0
ReplaysLog s bytes end before after =
    (log : Logged) × IsRunLog s bytes log × (end ≡ (run (its_components s) (actions_of log) (its_starts s)).ending) × Appends before after (log_run_text s log)

-- a beginning of the run's text is written
abbrev pub BeginsLog : Subject → List ℕ → Option (List ℕ) → Option (List ℕ) → Type 0
BeginsLog s bytes before after = (log : Logged) × IsRunLog s bytes log × ((k : ℕ) × Appends before after (take k (log_run_text s log)))

-- what is found where invariants are asked for: the first that is broken in a state of the run; or none, and how the run ends
pub data Found : Type 0 where
  broken : Broken → Found
  unbroken : Ending → Found

abbrev pub found_of : Finding → Found
found_of (Finding.Broken b) = broken (broken_of b)
found_of (Finding.Unbroken end) = unbroken (ending_of end)

abbrev pub found_in : Hosted → Logged → Found
found_in h log =
    option_map_or broken (first_broken_host h (actions_of log)) (unbroken (run (hosts_of h) (actions_of log) (host_starts h)).ending)

abbrev pub broken_words : Broken → List ℕ
broken_words b = codes "invariant " ++ (decimal b.invariant ++ (codes " of component " ++ (decimal b.component ++ (codes " broken after " ++ decimal b.state))))

abbrev pub broken_line : Broken → List ℕ
broken_line b = broken_words b ++ 10 ∷ []

-- the broken invariant alone; where none is, the run's text
abbrev pub found_text : Hosted → Logged → Found → List ℕ
found_text h log (broken b) = broken_line b
found_text h log (unbroken end) = log_run_text (of_hosts h) log

-- this is what is found in the run, and its text
abbrev pub IsFoundInLog : Hosted → List ℕ → Found → List ℕ → Type 0
IsFoundInLog h bytes found text =
    (log : Logged) × IsRunLog (of_hosts h) bytes log × (found ≡ found_in h log) × (text ≡ found_text h log (found_in h log))

-- what is found in the run is the answer, and its text is written
abbrev pub FindsInLog : Hosted → List ℕ → Found → Option (List ℕ) → Option (List ℕ) → Type 0
FindsInLog h bytes found before after =
    (log : Logged) × IsRunLog (of_hosts h) bytes log × (found ≡ found_in h log) × Appends before after (found_text h log (found_in h log))

-- a beginning of it is written
abbrev pub BeginsFound : Hosted → List ℕ → Option (List ℕ) → Option (List ℕ) → Type 0
BeginsFound h bytes before after =
    (log : Logged) × IsRunLog (of_hosts h) bytes log × ((k : ℕ) × Appends before after (take k (found_text h log (found_in h log))))

-- why the subject does not accept what the log tells to be performed; none where it does
abbrev pub answer_to : Subject → Logged → Option Ending
answer_to s log = monitored (its_components s) (performed_in log) (its_starts s)

abbrev pub answer_text : Option Ending → List ℕ
answer_text None = codes "ok"
answer_text (Some end) = ending_text end

-- told as an object, or not
abbrev pub answer_line : Bool → Option Ending → List ℕ
answer_line true answer = verdict_line (answer_json answer)
answer_line false answer = codes "monitor: " ++ (answer_text answer ++ 10 ∷ [])

-- all is seen, the bytes are a text of a log, and the answer to it is written
abbrev pub Monitors : Bool → Subject → List ℕ → Option Ending → Option (List ℕ) → Option (List ℕ) → Type 0
Monitors json s bytes answer before after =
    IsOpen s × ((log : Logged) × ReadsLog (its_types s) bytes log × (answer ≡ answer_to s log) × Appends before after (answer_line json answer))

-- a beginning of it is written
abbrev pub BeginsMonitor : Bool → Subject → List ℕ → Option (List ℕ) → Option (List ℕ) → Type 0
BeginsMonitor json s bytes before after =
    IsOpen s
    × ((log : Logged) × ReadsLog (its_types s) bytes log × ((k : ℕ) × Appends before after (take k (answer_line json (answer_to s log)))))
