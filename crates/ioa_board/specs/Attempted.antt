-- What attempts at actions of a program answer, and what then stands: on the states, on the board, and in the room.
use Rattle.std.specs.Prelude.{◌≡◌, ◌≢◌, ◌++◌, ◌∷◌, [], ℕ, List, Option, None, Some, length, map, slice_get}
use Rattle.std.specs.Option.{option_map}
use Rattle.ioa_value.specs.Actions.{Act}
use Rattle.ioa_parts.specs.Nodes.{Node}
use Rattle.ioa_tree.specs.Steps.{not_an_action, step}
use Rattle.ioa_compile.specs.Programs.{Prog}
use Rattle.ioa_compile.specs.Tables.{tabled}
use Rattle.ioa_system.specs.declared.outcomes.Step.{Step}
use Rattle.ioa_system.specs.Outcomes.{KeepsUnlessNext, step_of}
use Rattle.ioa_system.specs.Logs.{log_entry, worker}
use Rattle.ioa_system.specs.declared.log.LogEntry.{LogEntry}
use Rattle.ioa_system.specs.Systems.{values_of}
use Rattle.ioa_board.specs.declared.answer.Answer.{Answer}
use Rattle.ioa_board.specs.declared.planned.Planned.{Planned}
use Rattle.ioa_board.specs.declared.recorded.Recorded.{Recorded}
use Rattle.ioa_board.specs.ProgramRooms.{IsInput, ProgramRoom, environment, place}
use Rattle.ioa_board.specs.Reports.{told_in, Changes}
use Rattle.ioa_board.specs.ProgramBoards.{ProgramBoard, failure_of}
use Rattle.ioa_board.specs.Boards.{attempt}

-- the step of a worker's own action from these states; none where the action is another worker's, and then nothing is changed
abbrev pub OwnStep : Prog → ℕ → Act → List Node → Option Step → List Node → Type 0
OwnStep p w a ns None ms = (w ≢ worker (tabled p) a) × (step (tabled p) a (values_of ns) ≢ not_an_action) × (ms ≡ ns)
OwnStep p w a ns (Some s) ms =
    (step (tabled p) a (values_of ns) ≢ not_an_action → w ≡ worker (tabled p) a) × (step_of s (values_of ms) ≡ step (tabled p) a (values_of ns)) × KeepsUnlessNext s ns ms

-- the answer to an attempt that comes to this step, or to none, and the history and the recorded fault then
abbrev pub Enters : ℕ × Act → Option Step → List LogEntry → Option Recorded → Answer → List LogEntry → Option Recorded → Type 0
Enters e None h r x h' r' = (x ≡ Answer.NotYours) × (h' ≡ h) × (r' ≡ r)
Enters e (Some Step.NotAnAction) h r x h' r' = (x ≡ Answer.NotAnAction) × (h' ≡ h) × (r' ≡ r)
Enters e (Some Step.NotEnabled) h r x h' r' = (x ≡ Answer.NotEnabled) × (h' ≡ h) × (r' ≡ r)
Enters e (Some (Step.Fault c f)) h r x h' r' =
    (x ≡ Answer.Faulted c f) × (h' ≡ h) × (option_map failure_of r' ≡ Some (record { entry = e; component = c; fault = f }))
Enters e (Some Step.Next) h r x h' r' = (x ≡ Answer.Committed (length h)) × (map log_entry h' ≡ map log_entry h ++ e ∷ []) × (r' ≡ r)

-- the answer to an attempt at an action whose planning answers this, where a fault is recorded
abbrev pub stopped_answer : Planned → Answer
stopped_answer (Planned.Ready p) = Answer.Stopped
stopped_answer Planned.NotAnAction = Answer.NotAnAction
stopped_answer Planned.NotEnabled = Answer.NotEnabled
stopped_answer Planned.NotYours = Answer.NotYours

-- the attempt's answer, and its board
pub record BoardAttempt (b : ProgramBoard) (w : ℕ) (a : Act) (x : Answer) (b' : ProgramBoard) : Type 0 where
  pub answer : x ≡ (attempt (tabled b.program) w a b.board).0
  pub board : b'.board ≡ (attempt (tabled b.program) w a b.board).1
  pub program : b'.program ≡ b.program

-- an action of the environment is the next of its script, and an input
pub record IsNextInput (r : ProgramRoom) (a : Act) : Type 0 where
  pub next : slice_get r.inputs (place r) ≡ Some a
  pub input : IsInput (tabled r.program) a

abbrev pub IsInScript : ProgramRoom → ℕ → Act → Type 0
IsInScript r w a = w ≡ environment r → IsNextInput r a

-- the attempt's answer, which the worker's report tells, and its board
pub record RoomAttempt (r : ProgramRoom) (w : ℕ) (a : Act) (x : Answer) (r' : ProgramRoom) : Type 0 where
  pub answer : x ≡ (attempt (tabled r.program) w a r.board).0
  pub board : r'.board ≡ (attempt (tabled r.program) w a r.board).1
  pub report : Changes (told_in r.turns x) w r.reports r'.reports
  pub rest : r' ≡ record r { board = r'.board; reports = r'.reports }
