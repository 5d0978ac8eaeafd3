-- What a turn leaves of a program's room.
use Rattle.std.specs.Prelude.{◌≡◌, ℕ, List, Bool, true, false, cond, Option, None, Some, length, slice_get, slice_set}
use Rattle.ioa_value.specs.Actions.{Act}
use Rattle.ioa_value.specs.Plain.{Val}
use Rattle.ioa_tree.specs.Proposing.{Words}
use Rattle.ioa_compile.specs.Tables.{tabled}
use Rattle.ioa_board.specs.declared.report.Report.{Report}
use Rattle.ioa_board.specs.declared.report.Why.{Why}
use Rattle.ioa_board.specs.declared.answer.Answer.{Answer}
use Rattle.ioa_run.specs.declared.turn.TurnEnd.{TurnEnd}
use Rattle.ioa_run.specs.Proposers.{proposers, tried}
use Rattle.ioa_board.specs.Reports.{told_in, Changes, left, with_idle}
use Rattle.ioa_run.specs.Going.{IsTurn}
use Rattle.ioa_board.specs.Histories.{count}
use Rattle.ioa_board.specs.ProgramRooms.{ProgramRoom, ChangesReport, environment, new_in, place}
use Rattle.ioa_board.specs.Boards.{attempt}
use Rattle.ioa_run.specs.Turns.{Turns, after, changed, is_last, meant}

-- ---- one turn

-- what an attempt that is answered so leaves of its worker
abbrev pub end_of : Answer → TurnEnd
end_of x = cond (is_last x) TurnEnd.IsLast TurnEnd.GoesOn

-- whether the worker takes no more turns
abbrev pub ends : TurnEnd → Bool
ends TurnEnd.GoesOn = false
ends TurnEnd.IsLast = true
ends TurnEnd.NoMemory = true

-- the attempt's answer is told, and its board stands
pub record Attempts (r : ProgramRoom) (w : ℕ) (a : Act) (last : Bool) (r' : ProgramRoom) : Type 0 where
  pub board : r'.board ≡ (attempt (tabled r.program) w a r.board).1
  pub answer : is_last (attempt (tabled r.program) w a r.board).0 ≡ last
  pub report : Changes (told_in r.turns (attempt (tabled r.program) w a r.board).0) w r.reports r'.reports
  pub rest : r' ≡ record r { board = r'.board; reports = r'.reports }

-- the turn of a worker that means to do this, or nothing
abbrev pub Acts : ProgramRoom → ℕ → Option Act → TurnEnd → ProgramRoom → Type 0
Acts r w None TurnEnd.GoesOn r' = ChangesReport with_idle w r r'
Acts r w None TurnEnd.IsLast r' = ⊥
Acts r w None TurnEnd.NoMemory r' = ⊥
Acts r w (Some a) TurnEnd.GoesOn r' = Attempts r w a false r'
Acts r w (Some a) TurnEnd.IsLast r' = Attempts r w a true r'
Acts r w (Some a) TurnEnd.NoMemory r' = r' ≡ r

-- ---- rounds of turns

abbrev pub standing_at : ProgramRoom → List Words → List Bool → Turns (List Val)
standing_at r words ended = record { board = r.board; reports = r.reports; words = words; ended = ended }

-- the worker means to do this, or nothing, and leaves these words
pub record Wishes (r : ProgramRoom) (ws : List Words) (w : ℕ) (o : Option Act) (ws' : List Words) : Type 0 where
  pub taken : ℕ
  pub wish : (es : List Bool) → meant (tabled r.program) (proposers r.program) r.inputs w (standing_at r ws es) ≡ tried o taken
  pub words : ws' ≡ changed (after taken) w ws
  pub script : w ≡ environment r → o ≡ slice_get r.inputs (place r)

-- the worker has performed so many actions, as its report says
pub record HasPerformed (r : ProgramRoom) (w n : ℕ) : Type 0 where
  pub report : Report
  pub there : slice_get r.reports w ≡ Some report
  pub told : n ≡ report.committed
  pub counted : n ≡ count (new_in r) w

-- the worker, which has not ended, takes the turn that is defined
pub record Took (r : ProgramRoom) (ws : List Words) (w : ℕ) (last : Bool) (r' : ProgramRoom) (ws' : List Words) : Type 0 where
  pub rest : r' ≡ record r { board = r'.board; reports = r'.reports }
  pub turn : (es : List Bool) → slice_get es w ≡ Some false
      → IsTurn (tabled r.program) (proposers r.program) r.inputs w (standing_at r ws es) (standing_at r' ws' (slice_set es w last))

-- memory is refused to the worker, and nothing is done
pub record Refused (r : ProgramRoom) (ws : List Words) (w : ℕ) (r' : ProgramRoom) (ws' : List Words) : Type 0 where
  pub report : Report
  pub there : slice_get r.reports w ≡ Some report
  pub leaves : ChangesReport (left r.turns Why.Memory) w r r'
  pub words : length ws' ≡ length ws

abbrev pub Takes : ProgramRoom → List Words → ℕ → TurnEnd → ProgramRoom → List Words → Type 0
Takes r ws w TurnEnd.GoesOn r' ws' = Took r ws w false r' ws'
Takes r ws w TurnEnd.IsLast r' ws' = Took r ws w true r' ws'
Takes r ws w TurnEnd.NoMemory r' ws' = Refused r ws w r' ws'
