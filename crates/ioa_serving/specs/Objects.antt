-- What a replay writes in either form, as text or as JSON objects, an object a line: its run, or the invariant that is broken.
use Rattle.std.specs.Prelude.{◌≡◌, ◌++◌, ◌∷◌, ℕ, All, Bool, true, false, IfSome, List, [], Option, codes, flat_map, take}
use Rattle.std.specs.Io.KnownBytes.{Appends}
use Rattle.std.specs.String.{string_bytes}
use Rattle.ioa_value.specs.Actions.{Act, Name}
use Rattle.ioa_value.specs.Lists.{ReadsList, lines}
use Rattle.ioa_value.specs.Names.{IsName}
use Rattle.ioa_value.specs.Table.{AreTypes, Table}
use Rattle.ioa_value.specs.Written.{written_action}
use Rattle.ioa_tree.specs.Hosts.{Hosted}
use Rattle.ioa_tree.specs.Runs.{Ending, run}
use Rattle.ioa_compile.specs.Subjects.{Subject, its_components, its_hidden, its_starts, its_types, of_hosts}
use Rattle.ioa_system.specs.Logs.{Logged, actions_of}
use Rattle.ioa_system.specs.Outcomes.{ending_of}
use Rattle.ioa_log.specs.Replays.{replay_text, run_text}
use Rattle.ioa_log.specs.declared.reading.Replayed.{Replayed}
use Rattle.ioa_watch.specs.Json.{ending_json}
use Rattle.ioa_serving.specs.declared.replay_objects.Told.{Told}
use Rattle.ioa_serving.specs.Failing.{Given}
use Rattle.ioa_serving.specs.Headline.{IsFileOf}
use Rattle.ioa_serving.specs.Json.{broken_json, verdict_line}
use Rattle.ioa_serving.specs.Logs.{Found, IsRunLog, broken, found_in, found_text, unbroken}

-- ---- a text in either form

-- the text of an action in an object, and an end
abbrev pub act_object : List ℕ → List ℕ
act_object act = codes "{\"act\":\"" ++ (act ++ codes "\"}\n")

abbrev pub end_object : Ending → List ℕ
end_object end = codes "{\"end\":" ++ (ending_json end ++ codes "}\n")

-- a line of a replay's text is an action where others follow it; the last one tells the end
abbrev pub object_before : List (List ℕ) → List ℕ → List ℕ
object_before [] line = []
object_before (l ∷ ls) line = act_object line

abbrev pub act_objects : List (List ℕ) → List ℕ
act_objects [] = []
act_objects (l ∷ ls) = object_before ls l ++ act_objects ls

-- the text of a replay that ends so, as it is or as objects
abbrev pub rendered : Bool → List ℕ → Ending → List ℕ
rendered false text end = text
rendered true text end = act_objects (lines text) ++ end_object end

-- of a run that is performed, before it is written
abbrev pub objects_of : Replayed → List ℕ
objects_of r = rendered true (string_bytes r.text) (ending_of r.end)

-- the objects tell what the text tells: each action of the trace, as it is written, and the end
abbrev pub ObjectsTellActions : Type 0
ObjectsTellActions = (types : Table) (acts : List Act) (end : Ending) → AreTypes types → All (λ a. IsName a.name) acts
    → rendered true (replay_text types acts end) end ≡ flat_map (λ a. act_object (written_action types a)) acts ++ end_object end

-- ---- what is written

-- the text of what the subject does over these actions
abbrev pub run_rendered : Bool → Subject → List Act → List ℕ
run_rendered json s acts =
    rendered json (run_text (its_types s) (its_hidden s) (its_components s) (its_starts s) acts) (run (its_components s) acts (its_starts s)).ending

-- the bytes are a list, the end is its run's, and the run's text is written; or a beginning of it
abbrev pub ReplaysAs : Bool → Subject → List ℕ → Ending → Option (List ℕ) → Option (List ℕ) → Type 0
ReplaysAs json s bytes end before after =
    (acts : List Act) × ReadsList (its_types s) bytes acts × (end ≡ (run (its_components s) acts (its_starts s)).ending) × Appends before after (run_rendered json s acts)

abbrev pub BeginsAs : Bool → Subject → List ℕ → Option (List ℕ) → Option (List ℕ) → Type 0
BeginsAs json s bytes before after = (acts : List Act) × ReadsList (its_types s) bytes acts × ((k : ℕ) × Appends before after (take k (run_rendered json s acts)))

-- the same of a log, which is of the run
abbrev pub ReplaysLogAs : Bool → Subject → List ℕ → Ending → Option (List ℕ) → Option (List ℕ) → Type 0
ReplaysLogAs json s bytes end before after =
    (log : Logged) × IsRunLog s bytes log × (end ≡ (run (its_components s) (actions_of log) (its_starts s)).ending)
    × Appends before after (run_rendered json s (actions_of log))

abbrev pub BeginsLogAs : Bool → Subject → List ℕ → Option (List ℕ) → Option (List ℕ) → Type 0
BeginsLogAs json s bytes before after = (log : Logged) × IsRunLog s bytes log × ((k : ℕ) × Appends before after (take k (run_rendered json s (actions_of log))))

-- what is found where a log is asked for invariants: the broken one alone; where none is, the run
abbrev pub found_rendered : Bool → Hosted → Logged → Found → List ℕ
found_rendered false h log found = found_text h log found
found_rendered true h log (broken b) = verdict_line (broken_json b)
found_rendered true h log (unbroken end) = run_rendered true (of_hosts h) (actions_of log)

abbrev pub FindsAs : Bool → Hosted → List ℕ → Found → Option (List ℕ) → Option (List ℕ) → Type 0
FindsAs json h bytes found before after =
    (log : Logged) × IsRunLog (of_hosts h) bytes log × (found ≡ found_in h log) × Appends before after (found_rendered json h log (found_in h log))

abbrev pub BeginsFoundAs : Bool → Hosted → List ℕ → Option (List ℕ) → Option (List ℕ) → Type 0
BeginsFoundAs json h bytes before after =
    (log : Logged) × IsRunLog (of_hosts h) bytes log × ((k : ℕ) × Appends before after (take k (found_rendered json h log (found_in h log))))

-- From the bytes of the file: as `IsReplay`, `IsLogReplay` and `IsInvariantReplay`, which are these where no objects are asked for.
abbrev pub IsReplayAs : Bool → List ℕ → Option Name → List ℕ → Ending → Option (List ℕ) → Option (List ℕ) → Type 0
IsReplayAs json text name bytes end before after = (s : Subject) × IsFileOf text name s × ReplaysAs json s bytes end before after

abbrev pub IsLogReplayAs : Bool → List ℕ → Option Name → List ℕ → Ending → Option (List ℕ) → Option (List ℕ) → Type 0
IsLogReplayAs json text name bytes end before after = (s : Subject) × IsFileOf text name s × ReplaysLogAs json s bytes end before after

abbrev pub BeginsReplayAs : Bool → List ℕ → Option Name → Option (List ℕ) → Option (List ℕ) → Option (List ℕ) → Type 0
BeginsReplayAs json text name bytes before after = Given text name bytes (λ s xs. BeginsAs json s xs before after)

abbrev pub BeginsLogReplayAs : Bool → List ℕ → Option Name → Option (List ℕ) → Option (List ℕ) → Option (List ℕ) → Type 0
BeginsLogReplayAs json text name bytes before after = Given text name bytes (λ s xs. BeginsLogAs json s xs before after)

abbrev pub IsInvariantReplayAs : Bool → List ℕ → Option Name → List ℕ → Found → Option (List ℕ) → Option (List ℕ) → Type 0
IsInvariantReplayAs json text name bytes found before after = (h : Hosted) × IsFileOf text name (of_hosts h) × FindsAs json h bytes found before after

abbrev pub BeginsFindingAs : Bool → List ℕ → Option Name → Option (List ℕ) → Option (List ℕ) → Option (List ℕ) → Type 0
BeginsFindingAs json text name bytes before after = (h : Hosted) × IsFileOf text name (of_hosts h) × IfSome bytes (λ xs. BeginsFoundAs json h xs before after)

-- ---- before it is written

-- the bytes are a list, and these are its run's end and objects
pub record IsListTold (s : Subject) (bytes : List ℕ) (t : Told) : Type 0 where
  pub acts : List Act
  pub reads : ReadsList (its_types s) bytes acts
  pub ending : ending_of t.end ≡ (run (its_components s) acts (its_starts s)).ending
  pub text : t.objects.items ≡ run_rendered true s acts

-- the same of a log, which is of the run
pub record IsLogTold (s : Subject) (bytes : List ℕ) (t : Told) : Type 0 where
  pub log : Logged
  pub is_log : IsRunLog s bytes log
  pub ending : ending_of t.end ≡ (run (its_components s) (actions_of log) (its_starts s)).ending
  pub text : t.objects.items ≡ run_rendered true s (actions_of log)

-- what is found in the log, and its objects
abbrev pub IsFoundTold : Hosted → List ℕ → Found → List ℕ → Type 0
IsFoundTold h bytes found objects =
    (log : Logged) × IsRunLog (of_hosts h) bytes log × (found ≡ found_in h log) × (objects ≡ found_rendered true h log (found_in h log))
