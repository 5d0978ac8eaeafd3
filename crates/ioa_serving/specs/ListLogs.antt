-- What the log of a list's run is in a composition of a source or in an object, from the bytes that are read to the bytes that are written.
use Rattle.std.specs.Prelude.{ℕ, List, Option}
use Rattle.ioa_value.specs.Actions.{Name}
use Rattle.ioa_tree.specs.Runs.{Ending}
use Rattle.ioa_compile.specs.Subjects.{Subject}
use Rattle.ioa_log.specs.RunLogs.{BeginsRunLog, WritesRunLog}
use Rattle.ioa_serving.specs.Failing.{Given}
use Rattle.ioa_serving.specs.Headline.{IsFileOf}

-- The bytes are a list of actions, and what is written is the log of the run that the hosts or the program make of it: the actions that they
-- perform and, where one faults, this too, each with its worker, and then the log's end. The ending is that of the run.
abbrev pub IsListLog : List ℕ → Option Name → List ℕ → Ending → Option (List ℕ) → Option (List ℕ) → Type 0
IsListLog text name bytes ending before after =
    (s : Subject) × IsFileOf text name s × WritesRunLog s bytes ending before after

-- what is written begins this log
abbrev pub BeginsListLogOf : List ℕ → Option Name → Option (List ℕ) → Option (List ℕ) → Option (List ℕ) → Type 0
BeginsListLogOf text name bytes before after =
    Given text name bytes (λ s xs. BeginsRunLog s xs before after)
