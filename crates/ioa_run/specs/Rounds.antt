-- What rounds of turns leave of a program's room, of the words, and of which workers take more turns.
use Rattle.std.specs.Prelude.{◌≡◌, ◌+◌, ◌<◌, ◌≤◌, ℕ, List, Bool, All, Result, Ok, Err, slice_get}
use Rattle.std.specs.Option.{option_map}
use Rattle.ioa_value.specs.Actions.{Act}
use Rattle.ioa_value.specs.Plain.{Val}
use Rattle.ioa_tree.specs.Proposing.{Words}
use Rattle.ioa_compile.specs.Programs.{Prog}
use Rattle.ioa_compile.specs.Tables.{tabled}
use Rattle.ioa_board.specs.declared.run_err.RunErr.{RunErr}
use Rattle.ioa_board.specs.ProgramRooms.{IsInput, ProgramRoom}
use Rattle.ioa_run.specs.Alone.{IsFirstOther, most_turns}
use Rattle.ioa_run.specs.Proposers.{proposers}
use Rattle.ioa_run.specs.Going.{AreSettled, Follows, dismissed}
use Rattle.ioa_run.specs.Turning.{standing_at}
use Rattle.ioa_run.specs.Turns.{Turns, round, rounds, turns_of_first}

-- before the start, as a run is refused
abbrev pub Checks : Prog → List Act → ℕ → Result (Unit {0}) RunErr → Type 0
Checks p inputs turns (Ok u) = (turns ≤ most_turns) × All (IsInput (tabled p)) inputs
Checks p inputs turns (Err RunErr.TooManyTurns) = most_turns < turns
Checks p inputs turns (Err (RunErr.BadInput i)) = (turns ≤ most_turns) × IsFirstOther (tabled p) inputs i
Checks p inputs turns (Err RunErr.Threads) = ⊥
Checks p inputs turns (Err (RunErr.BadLog i)) = ⊥
Checks p inputs turns (Err RunErr.EndedByFault) = ⊥
Checks p inputs turns (Err RunErr.OutOfMemory) = turns ≤ most_turns

-- the board and the reports alone are others; turns are taken as they are defined, unless memory is refused to a worker; and after m
-- rounds, and the turns of the first k workers in the next, reports are still settled
pub record Goes (m k : ℕ) (go : Turns (List Val) → Turns (List Val)) (r : ProgramRoom) (ws : List Words) (es : List Bool) (r' : ProgramRoom) (ws' : List Words) (es' : List Bool) : Type 0 where
  pub rest : r' ≡ record r { board = r'.board; reports = r'.reports }
  pub follows : Follows go (standing_at r ws es) (standing_at r' ws' es')
  pub settled : (n : ℕ) → n + m ≤ most_turns → AreSettled n 0 (standing_at r ws es) → AreSettled (n + m) k (standing_at r' ws' es')

-- turns of the first so many workers
abbrev pub GoesFirst : ℕ → ProgramRoom → List Words → List Bool → ProgramRoom → List Words → List Bool → Type 0
GoesFirst n r ws es r' ws' es' = Goes 0 n (turns_of_first (tabled r.program) (proposers r.program) r.inputs n) r ws es r' ws' es'

abbrev pub GoesRound : ProgramRoom → List Words → List Bool → ProgramRoom → List Words → List Bool → Type 0
GoesRound r ws es r' ws' es' = Goes 1 0 (round (tabled r.program) (proposers r.program) r.inputs) r ws es r' ws' es'

abbrev pub GoesRounds : ℕ → ProgramRoom → List Words → List Bool → ProgramRoom → List Words → List Bool → Type 0
GoesRounds n r ws es r' ws' es' = Goes n 0 (rounds (tabled r.program) (proposers r.program) r.inputs n) r ws es r' ws' es'

-- who has not ended is told that its turns are done
pub record Dismisses (r : ProgramRoom) (es : List Bool) (r' : ProgramRoom) : Type 0 where
  pub rest : r' ≡ record r { reports = r'.reports }
  pub reports : (w : ℕ) → slice_get r'.reports w ≡ option_map (dismissed r.turns es w) (slice_get r.reports w)
