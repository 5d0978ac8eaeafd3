-- A run on one thread as a play of the schedule machine: the events of its turns, each with its answer.
use Rattle.std.specs.Prelude.{◌≡◌, ◌≢◌, ◌+◌, ◌++◌, ℕ, zero, suc, List, [], ◌∷◌, All, Ok, cond, length, map}
use Rattle.ioa_value.specs.Actions.{Act}
use Rattle.ioa_tree.specs.Components.{Component}
use Rattle.ioa_tree.specs.Proposing.{Words, Tried, tries, idle}
use Rattle.ioa_compile.specs.Subjects.{State, Subject, its_components, its_starts}
use Rattle.ioa_system.specs.Logs.{Logged}
use Rattle.ioa_run.specs.Alone.{turns_since}
use Rattle.ioa_board.specs.Boards.{Standing, attempt}
use Rattle.ioa_run.specs.Proposers.{its_proposers}
use Rattle.ioa_board.specs.Resuming.{resumption}
use Rattle.ioa_run.specs.Schedules.{Event, Plays, Schedule, commit, copy, schedule_from}
use Rattle.ioa_run.specs.Turns.{Proposer, Turns, has_ended, meant, rounds, turns_from, turns_of_first}
use Rattle.ioa_board.specs.declared.answer.Answer.{Answer}

-- the events of a worker's attempt that is answered so: it copies and, where it can plan the action, commits at once
abbrev pub attempt_events : ℕ → Act → Answer → List (Event × Answer)
attempt_events w a Answer.NotAnAction = (copy w a, Answer.NotAnAction) ∷ []
attempt_events w a Answer.NotYours = (copy w a, Answer.NotYours) ∷ []
attempt_events w a Answer.NotEnabled = (copy w a, Answer.NotEnabled) ∷ []
attempt_events w a Answer.Planned = (copy w a, Answer.Planned) ∷ (commit w, Answer.Planned) ∷ []
attempt_events w a Answer.NoPlan = (copy w a, Answer.Planned) ∷ (commit w, Answer.NoPlan) ∷ []
attempt_events w a Answer.Stopped = (copy w a, Answer.Planned) ∷ (commit w, Answer.Stopped) ∷ []
attempt_events w a Answer.Stale = (copy w a, Answer.Planned) ∷ (commit w, Answer.Stale) ∷ []
attempt_events w a (Answer.Faulted c f) = (copy w a, Answer.Planned) ∷ (commit w, Answer.Faulted c f) ∷ []
attempt_events w a (Answer.Committed n) = (copy w a, Answer.Planned) ∷ (commit w, Answer.Committed n) ∷ []

-- of the turn of a worker that means to do this, or nothing
abbrev pub tried_events : {S : Type 0} → List (Component S) → ℕ → Tried Act → Standing S → List (Event × Answer)
tried_events ps w (idle taken) b = []
tried_events ps w (tries a taken) b = attempt_events w a (attempt ps w a b).0

-- the components, the local entries of each in order, and the environment's script
module _ {S : Type 0} (ps : List (Component S)) (entries : List (List (Proposer S))) (inputs : List Act) where
  -- of a worker's turn: who has ended takes none
  abbrev pub turn_events : ℕ → Turns S → List (Event × Answer)
  turn_events w t = cond (has_ended t w) [] (tried_events ps w (meant ps entries inputs w t) t.board)

  -- of the turns of the first so many workers
  abbrev pub first_events : ℕ → Turns S → List (Event × Answer)
  first_events zero t = []
  first_events (suc n) t = first_events n t ++ turn_events n (turns_of_first ps entries inputs n t)

  -- of so many rounds
  abbrev pub rounds_events : ℕ → Turns S → List (Event × Answer)
  rounds_events zero t = []
  rounds_events (suc n) t = rounds_events n t ++ first_events (length entries + 1) (rounds ps entries inputs n t)

-- of a whole run since this board
abbrev pub alone_events : {S : Type 0} → List (Component S) → List (List (Proposer S)) → List Act → ℕ → Standing S → List Words → List (Event × Answer)
alone_events ps entries inputs turns b words = rounds_events ps entries inputs turns (turns_from b words (length entries))

-- each of these events is answered so, one after another
abbrev pub PlaysAs : {S : Type 0} → List (Component S) → List (Event × Answer) → Schedule S → Schedule S → Type 0
PlaysAs ps es s t = Plays ps (map (λ e. e.0) es) s (map (λ e. e.1) es) t

-- this board stands, and no worker has a plan, as at the beginning, when that one stood
abbrev pub played : {S : Type 0} → Standing S → Standing S → Schedule S
played first b = record (schedule_from first) { board = b }

-- ---- laws

-- of a run of whatever a program runs as, since this board
abbrev pub events_since : (s : Subject) → Standing (State s) → List Words → List Act → ℕ → List (Event × Answer)
events_since s b words inputs turns = alone_events (its_components s) (its_proposers s) inputs turns b words

-- since a board that is resumed the machine answers so, and comes to the board of the run
abbrev pub AlonePlays : Type 0
AlonePlays =
    (s : Subject) (log : Logged) (b : Standing (State s)) (words : List Words) (inputs : List Act) (turns : ℕ) → resumption (its_components s) (its_starts s) log ≡ Ok b
    → PlaysAs (its_components s) (events_since s b words inputs turns) (schedule_from b) (played b (turns_since s b words inputs turns).board)

-- no plan is stale
abbrev pub NeverStale : Type 0
NeverStale =
    (s : Subject) (log : Logged) (b : Standing (State s)) (words : List Words) (inputs : List Act) (turns : ℕ) → resumption (its_components s) (its_starts s) log ≡ Ok b
    → All (λ e. e.1 ≢ Answer.Stale) (events_since s b words inputs turns)
