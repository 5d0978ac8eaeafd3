-- How often entries are performed in replays and runs and, of a source, arms and bodies of their effects are taken, as it is told.
use Rattle.std.specs.Prelude.{◌≡◌, ◌++◌, ◌∷◌, ℕ, Bool, true, false, List, [], Option, Some, None, take}
use Rattle.std.specs.Io.KnownBytes.{Appends}
use Rattle.ioa_value.specs.Actions.{Act, Name}
use Rattle.ioa_value.specs.Lists.{ReadsList}
use Rattle.ioa_value.specs.Lists as lists
use Rattle.ioa_tree.specs.Runs.{Ending, run}
use Rattle.ioa_compile.specs.Subjects.{Subject, its_components, its_starts, its_types}
use Rattle.ioa_system.specs.Logs.{Logged, actions_of}
use Rattle.ioa_coverage.specs.Covered.{its_coverage}
use Rattle.ioa_device.specs.declared.failure.LogErr.{LogErr}
use Rattle.ioa_log.specs.Replays.{its_text}
use Rattle.ioa_serving.specs.declared.failure.Failure.{Failure}
use Rattle.ioa_serving.specs.Failing.{IsFailure, IsLogReplayFailure, IsNoLogOf}
use Rattle.ioa_serving.specs.Headline.{IsFileOf}
use Rattle.ioa_serving.specs.Logs.{IsRunLog, log_run_text, performed_in}
use Rattle.ioa_serving.specs.Objects.{BeginsLogReplayAs, BeginsReplayAs, rendered}

-- ---- replays

-- those of a list's actions that the subject's run over them performs
abbrev pub performed_of : Subject → List Act → List Act
performed_of s acts = take (run (its_components s) acts (its_starts s)).performed acts

-- the bytes are a list; this is the end of its run, with the text that a replay writes, and this is told of the entries
abbrev pub CoversList : Subject → List ℕ → Ending → List ℕ → List ℕ → Type 0
CoversList s bytes end text told =
    (acts : List Act) × ReadsList (its_types s) bytes acts × (end ≡ (run (its_components s) acts (its_starts s)).ending)
    × (text ≡ its_text s acts) × (told ≡ its_coverage s (performed_of s acts ∷ []))

-- the same of a log of the run that the subject does, by what the log tells to be performed
abbrev pub CoversLog : Subject → List ℕ → Ending → List ℕ → List ℕ → Type 0
CoversLog s bytes end text told =
    (log : Logged) × IsRunLog s bytes log × (end ≡ (run (its_components s) (actions_of log) (its_starts s)).ending) × (text ≡ log_run_text s log)
    × (told ≡ its_coverage s (performed_in log ∷ []))

-- of a log, or of a list
abbrev pub CoversRun : Bool → Subject → List ℕ → Ending → List ℕ → List ℕ → Type 0
CoversRun true s bytes end text told = CoversLog s bytes end text told
CoversRun false s bytes end text told = CoversList s bytes end text told

-- so it is of what the file gives, and the text is written, as it is or as objects
abbrev pub IsCoverage : Bool → Bool → List ℕ → Option Name → List ℕ → Ending → List ℕ → Option (List ℕ) → Option (List ℕ) → Type 0
IsCoverage log json text name bytes end told before after =
    (s : Subject) × IsFileOf text name s × ((written : List ℕ) × CoversRun log s bytes end written told × Appends before after (rendered json written end))

-- why the bytes are no list
abbrev pub IsNoListOf : LogErr → Subject → List ℕ → Type 0
IsNoListOf (LogErr.NotJson n) s bytes = ⊥
IsNoListOf (LogErr.BadEntry n) s bytes = lists.BadLine (its_types s) bytes n
IsNoListOf (LogErr.WrongOwner n) s bytes = ⊥
IsNoListOf (LogErr.Diverges n) s bytes = ⊥
IsNoListOf LogErr.NoEnd s bytes = ⊥
IsNoListOf LogErr.AfterEnd s bytes = ⊥
IsNoListOf LogErr.Io s bytes = ⊥
IsNoListOf LogErr.OutOfMemory s bytes = Unit {0}

-- or no log of the subject's run
abbrev pub IsUncovered : Bool → LogErr → Subject → List ℕ → Type 0
IsUncovered true e s bytes = IsNoLogOf e s bytes
IsUncovered false e s bytes = IsNoListOf e s bytes

-- why nothing is told: as a replay of the log, or of the list, does not come to an end
abbrev pub IsCoverageFailure : Bool → List ℕ → Option Name → Option (List ℕ) → Type 0 → Failure → Type 0
IsCoverageFailure true text name bytes failed e = IsLogReplayFailure text name bytes failed e
IsCoverageFailure false text name bytes failed e = IsFailure text name bytes failed e

-- what is written begins what such a replay writes
abbrev pub BeginsCoverageOf : Bool → Bool → List ℕ → Option Name → Option (List ℕ) → Option (List ℕ) → Option (List ℕ) → Type 0
BeginsCoverageOf true json text name bytes before after = BeginsLogReplayAs json text name bytes before after
BeginsCoverageOf false json text name bytes before after = BeginsReplayAs json text name bytes before after

-- ---- runs

-- what is told of the entries over the actions of these runs, where it is asked for
abbrev pub told_coverage : Subject → Bool → List (List Act) → Option (List ℕ)
told_coverage s true runs = Some (its_coverage s runs)
told_coverage s false runs = None

-- words that are told behind others, where there are any
abbrev pub behind : Option (List ℕ) → Option (List ℕ) → Option (List ℕ)
behind None more = more
behind (Some text) None = Some text
behind (Some text) (Some more) = Some (text ++ more)
