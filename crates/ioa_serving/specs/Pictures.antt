-- What the charts of logs and the graphs are in a composition of a source or in an object, from the bytes that are read to the bytes that are
-- written.
use Rattle.std.specs.Prelude.{◌≡◌, ℕ, List, ◌∷◌, Option, length, take}
use Rattle.std.specs.Io.KnownBytes.{Appends, Keeps}
use Rattle.std.specs.String.{string_bytes}
use Rattle.ioa_value.specs.Actions.{Name}
use Rattle.ioa_tree.specs.Runs.{Ending, run}
use Rattle.ioa_compile.specs.Programs.{Prog}
use Rattle.ioa_compile.specs.Subjects.{RunsAs, Subject, its_components, its_names, its_starts, its_types}
use Rattle.ioa_system.specs.Logs.{Logged, actions_of}
use Rattle.ioa_system.specs.Outcomes.{ending_of}
use Rattle.ioa_picture.specs.Charts.{chart}
use Rattle.ioa_picture.specs.Graphs.{graph}
use Rattle.ioa_picture.specs.Selections.{Selection}
use Rattle.ioa_request.specs.Pasted.{texts}
use Rattle.ioa_request.specs.declared.selection.Selection.{Selection as Asked}
use Rattle.ioa_serving.specs.declared.failure.Failure.{Failure}
use Rattle.ioa_serving.specs.declared.log_chart.Drawn.{Drawn}
use Rattle.ioa_serving.specs.Failing.{Given, IsDeviceErr, IsNoObject, IsRefusedFile}
use Rattle.ioa_serving.specs.Headline.{IsFileOf}
use Rattle.ioa_serving.specs.Logs.{IsRunLog}

-- the entries that are asked for
abbrev pub selected : Asked → Selection
selected a = record { from = a.from; to = a.to; without = texts a.without.now }

-- the chart of a log's entries that are selected, by the subject's components and their names
abbrev pub chart_by : Selection → Subject → Logged → List ℕ
chart_by selection s log = chart selection (its_types s) (its_names s) (its_components s) log

-- the end is the run's, and the log's chart is written
abbrev pub ChartsLog : Selection → Subject → List ℕ → Ending → Option (List ℕ) → Option (List ℕ) → Type 0
ChartsLog selection s bytes end before after =
    (log : Logged) × IsRunLog s bytes log × (end ≡ (run (its_components s) (actions_of log) (its_starts s)).ending) × Appends before after (chart_by selection s log)

-- the same before it is written
pub record IsDrawn (selection : Selection) (s : Subject) (bytes : List ℕ) (d : Drawn) : Type 0 where
  pub log : Logged
  pub is_log : IsRunLog s bytes log
  pub ending : ending_of d.end ≡ (run (its_components s) (actions_of log) (its_starts s)).ending
  pub text : string_bytes d.text ≡ chart_by selection s log

-- The bytes are a log of the run that the hosts or the program do, whatever of it is selected, and what is written is the chart of what is.
abbrev pub IsLogChart : List ℕ → Option Name → Selection → List ℕ → Ending → Option (List ℕ) → Option (List ℕ) → Type 0
IsLogChart text name selection bytes end before after = (s : Subject) × IsFileOf text name s × ChartsLog selection s bytes end before after

-- what is written begins this chart
abbrev pub BeginsChart : Selection → Subject → List ℕ → Option (List ℕ) → Option (List ℕ) → Type 0
BeginsChart selection s bytes before after = (log : Logged) × IsRunLog s bytes log × ((k : ℕ) × Appends before after (take k (chart_by selection s log)))

abbrev pub BeginsChartOf : List ℕ → Option Name → Selection → Option (List ℕ) → Option (List ℕ) → Option (List ℕ) → Type 0
BeginsChartOf text name selection bytes before after = Given text name bytes (λ s xs. BeginsChart selection s xs before after)

-- lines behind how many numbers they are, so that those of each entry are found again among those of all
abbrev pub framed : List ℕ → List ℕ
framed lines = length lines ∷ lines

-- the program does what the file gives
abbrev pub IsProgramOf : List ℕ → Option Name → Prog → Type 0
IsProgramOf text name p = (s : Subject) × IsFileOf text name s × RunsAs p s

-- the graph of a program that does what the file gives is written
abbrev pub IsGraphed : List ℕ → Option Name → Option (List ℕ) → Option (List ℕ) → Type 0
IsGraphed text name before after = (p : Prog) × IsProgramOf text name p × Appends before after (graph p)

-- a beginning of it is
abbrev pub BeginsGraph : List ℕ → Option Name → Option (List ℕ) → Option (List ℕ) → Type 0
BeginsGraph text name before after = (p : Prog) × (k : ℕ) × IsProgramOf text name p × Appends before after (take k (graph p))

-- the file is refused, and nothing was written; or the device failed, and a beginning of the graph was. Memory may be short at any time
abbrev pub IsUngraphed : List ℕ → Option Name → Type 0 → Option (List ℕ) → Option (List ℕ) → Failure → Type 0
IsUngraphed text name failed before after (Failure.Refused r) = IsRefusedFile text name r × Keeps before after
IsUngraphed text name failed before after (Failure.Object e) = IsNoObject text e × Keeps before after
IsUngraphed text name failed before after Failure.SourceWanted = ⊥
IsUngraphed text name failed before after (Failure.List e) = IsDeviceErr (failed × BeginsGraph text name before after) e
IsUngraphed text name failed before after Failure.SpecHasInternal = ⊥
IsUngraphed text name failed before after (Failure.BadWords n) = ⊥
IsUngraphed text name failed before after Failure.TooManyTurns = ⊥
IsUngraphed text name failed before after (Failure.BadInput i) = ⊥
IsUngraphed text name failed before after Failure.Threads = ⊥
IsUngraphed text name failed before after (Failure.BadLog i) = ⊥
IsUngraphed text name failed before after Failure.EndedByFault = ⊥
IsUngraphed text name failed before after (Failure.RunLog e) = ⊥
IsUngraphed text name failed before after Failure.Io = ⊥
IsUngraphed text name failed before after Failure.OutOfMemory = Keeps before after
