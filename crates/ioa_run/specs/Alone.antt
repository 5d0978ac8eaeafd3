-- A run on one thread of the workers of whatever a program runs as, and what it gives.
use Rattle.std.specs.Prelude.{◌≡◌, ◌≢◌, ◌≤◌, ◌<◌, ℕ, List, Some, All, Result, Ok, Err, length, slice_get}
use Rattle.ioa_value.specs.Actions.{Act}
use Rattle.ioa_value.specs.Plain.{Val}
use Rattle.ioa_tree.specs.Components.{Component}
use Rattle.ioa_tree.specs.Proposing.{Words}
use Rattle.ioa_compile.specs.Programs.{Prog}
use Rattle.ioa_compile.specs.Subjects.{State, Subject, its_components}
use Rattle.ioa_compile.specs.Tables.{start_states, tabled}
use Rattle.ioa_system.specs.Logs.{Logged}
use Rattle.ioa_board.specs.Boards.{Standing, begun}
use Rattle.ioa_board.specs.Histories.{GoesOn, since}
use Rattle.ioa_board.specs.Resuming.{resumption}
use Rattle.ioa_board.specs.Outcomes.{IsLogOf}
use Rattle.ioa_run.specs.Proposers.{its_proposers, proposers}
use Rattle.ioa_board.specs.Reports.{AreTold}
use Rattle.ioa_run.specs.Turns.{Turns, alone_from}
use Rattle.ioa_board.specs.declared.outcome.Outcome.{Outcome}
use Rattle.ioa_board.specs.declared.report.Report.{Report}
use Rattle.ioa_board.specs.declared.report.Why.{Why}
use Rattle.ioa_board.specs.declared.run_err.RunErr.{RunErr}
use Rattle.ioa_board.specs.ProgramRooms.{IsInput}

-- turns of all workers on one thread since this board, so many rounds of them: in each round the components in order, each by its own words, and then the
-- environment
abbrev pub turns_since : (s : Subject) → Standing (State s) → List Words → List Act → ℕ → Turns (State s)
turns_since s b words inputs turns = alone_from (its_components s) (its_proposers s) inputs turns b words

-- ---- what it gives

-- the log, the end and the states are a board's, and the reports tell of its history
abbrev pub IsOutcome : Prog → List Act → ℕ → Outcome → Type 0
IsOutcome p inputs turns o =
    (b : Standing (List Val)) × IsLogOf p b o.log.items o.end o.states.items × AreTold (length p.members) inputs turns b.history b.failure o.reports.items

-- the same of a run that goes on from what was done before: the reports tell of what is new
abbrev pub IsOutcomeFrom : Prog → List (ℕ × Act) → List Act → ℕ → Outcome → Type 0
IsOutcomeFrom p before inputs turns o =
    (b : Standing (List Val)) × IsLogOf p b o.log.items o.end o.states.items × GoesOn before b.history
    × AreTold (length p.members) inputs turns (since before b.history) b.failure o.reports.items

-- memory was refused to no worker
abbrev pub NoMemory : List Report → Type 0
NoMemory rs = All (λ r. r.why ≢ Why.Memory) rs

-- the log, the end, the states and the reports are those of the run that is defined, from this board
pub record IsAloneFrom (p : Prog) (b : Standing (List Val)) (words : List Words) (inputs : List Act) (turns : ℕ) (o : Outcome) : Type 0 where
  pub log : IsLogOf p (alone_from (tabled p) (proposers p) inputs turns b words).board o.log.items o.end o.states.items
  pub reports : o.reports.items ≡ (alone_from (tabled p) (proposers p) inputs turns b words).reports

-- the same from the start
abbrev pub IsAlone : Prog → List Words → List Act → ℕ → Outcome → Type 0
IsAlone p words inputs turns o = IsAloneFrom p (begun (start_states p)) words inputs turns o

-- the same from where the run ended that the log tells
abbrev pub IsAloneSince : Prog → Logged → List Words → List Act → ℕ → Outcome → Type 0
IsAloneSince p log words inputs turns o =
    (b : Standing (List Val)) × (resumption (tabled p) (start_states p) log ≡ Ok b) × IsAloneFrom p b words inputs turns o

-- ---- when there is none

-- the first action that is none
pub record IsFirstOther {S : Type 0} (ps : List (Component S)) (inputs : List Act) (i : ℕ) : Type 0 where
  pub there : i < length inputs
  pub other : (a : Act) → slice_get inputs i ≡ Some a → IsInput ps a → ⊥
  pub before : (j : ℕ) (a : Act) → j < i → slice_get inputs j ≡ Some a → IsInput ps a

-- more turns than these are too many
abbrev pub most_turns : ℕ
most_turns = 100000

-- too many turns first, then the first action that is no input; a thread is refused, or ends without a word, of a run that may begin alone;
-- where memory is wanting before the start no input need have been looked at
abbrev pub Refuses : Prog → List Act → ℕ → Result Outcome RunErr → Type 0
Refuses p inputs turns (Ok o) = (turns ≤ most_turns) × All (IsInput (tabled p)) inputs
Refuses p inputs turns (Err RunErr.TooManyTurns) = most_turns < turns
Refuses p inputs turns (Err (RunErr.BadInput i)) = (turns ≤ most_turns) × IsFirstOther (tabled p) inputs i
Refuses p inputs turns (Err RunErr.Threads) = (turns ≤ most_turns) × All (IsInput (tabled p)) inputs
Refuses p inputs turns (Err (RunErr.BadLog i)) = ⊥
Refuses p inputs turns (Err RunErr.EndedByFault) = ⊥
Refuses p inputs turns (Err RunErr.OutOfMemory) = turns ≤ most_turns

-- the log is resumed
abbrev pub HasResumed : Prog → Logged → Type 0
HasResumed p log = (b : Standing (List Val)) × (resumption (tabled p) (start_states p) log ≡ Ok b)

-- the same of a run that is resumed, and begins only where its log is: after the turns and the inputs, what refuses the log
abbrev pub RefusesResumed : Prog → List Act → ℕ → Logged → Result Outcome RunErr → Type 0
RefusesResumed p inputs turns log (Ok o) = (turns ≤ most_turns) × All (IsInput (tabled p)) inputs × HasResumed p log
RefusesResumed p inputs turns log (Err RunErr.TooManyTurns) = most_turns < turns
RefusesResumed p inputs turns log (Err (RunErr.BadInput i)) = (turns ≤ most_turns) × IsFirstOther (tabled p) inputs i
RefusesResumed p inputs turns log (Err (RunErr.BadLog i)) =
    (turns ≤ most_turns) × All (IsInput (tabled p)) inputs × (resumption (tabled p) (start_states p) log ≡ Err (RunErr.BadLog i))
RefusesResumed p inputs turns log (Err RunErr.EndedByFault) =
    (turns ≤ most_turns) × All (IsInput (tabled p)) inputs × (resumption (tabled p) (start_states p) log ≡ Err RunErr.EndedByFault)
RefusesResumed p inputs turns log (Err RunErr.Threads) = (turns ≤ most_turns) × All (IsInput (tabled p)) inputs × HasResumed p log
RefusesResumed p inputs turns log (Err RunErr.OutOfMemory) = turns ≤ most_turns
