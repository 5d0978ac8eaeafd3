-- The room of a program: what its workers share.
use Rattle.std.specs.Prelude.{◌≡◌, ◌+◌, ◌<◌, ℕ, List, length, refl, replicate, ◌≢◌, [], None}
use Rattle.std.specs.Coded.{Coded, code_by, coded×, coded_ℕ, coded_list}
use Rattle.ioa_value.specs.Actions.{Act}
use Rattle.ioa_value.specs.Plain.{Val}
use Rattle.ioa_tree.specs.Components.{Component}
use Rattle.ioa_tree.specs.Steps.{owner, participants}
use Rattle.ioa_compile.specs.Programs.{Prog}
use Rattle.ioa_compile.specs.Coded.{coded_prog}
use Rattle.ioa_compile.specs.Tables.{start_states}
use Rattle.ioa_board.specs.declared.report.Report.{Report}
use Rattle.ioa_board.specs.contracts.report.Report as report
use Rattle.ioa_board.specs.Boards.{Standing, begun}
use Rattle.ioa_board.specs.Coded.{coded_act, coded_entry, coded_standing}
use Rattle.ioa_board.specs.Histories.{count, since}
use Rattle.ioa_board.specs.ProgramBoards.{ProgramBoard}
use Rattle.ioa_board.specs.Reports.{AreTold, Changes, blank}

-- the inputs are the environment's script, each worker has so many turns, and the run goes on from what was done before
pub record ProgramRoom : Type 0 where
  pub program : Prog
  pub before : List (ℕ × Act)
  pub inputs : List Act
  pub turns : ℕ
  pub board : Standing (List Val)
  pub reports : List Report

abbrev pub coded_program_room : Coded ProgramRoom
coded_program_room =
    code_by ((Prog × List (ℕ × Act)) × (List Act × (ℕ × (Standing (List Val) × List Report)))) (coded× (coded× coded_prog (coded_list coded_entry)) (coded× (coded_list coded_act) (coded× coded_ℕ (coded× coded_standing (coded_list report.the_row.coded)))))
    (λ r. ((r.program, r.before), (r.inputs, (r.turns, (r.board, r.reports)))))
    (λ p. record { program = p.0.0; before = p.0.1; inputs = p.1.0; turns = p.1.1.0; board = p.1.1.1.0; reports = p.1.1.1.1 }) (λ _. refl)

-- nothing is done yet since this board
abbrev pub room_on : Prog → Standing (List Val) → List Act → ℕ → ProgramRoom
room_on p b inputs turns =
    record { program = p; before = b.history; inputs = inputs; turns = turns; board = b; reports = replicate (length p.members + 1) blank }

-- nothing is done yet
abbrev pub start_room : Prog → List Act → ℕ → ProgramRoom
start_room p inputs turns = room_on p (begun (start_states p)) inputs turns

abbrev pub board_in : ProgramRoom → ProgramBoard
board_in r = record { program = r.program; board = r.board }

-- the environment's number
abbrev pub environment : ProgramRoom → ℕ
environment r = length r.program.members

-- what is done since
abbrev pub new_in : ProgramRoom → List (ℕ × Act)
new_in r = since r.before r.board.history

-- how many of the inputs are performed
abbrev pub place : ProgramRoom → ℕ
place r = count (new_in r) (environment r)

-- an input of the composition: a component has the action, and none owns it
pub record IsInput {S : Type 0} (ps : List (Component S)) (a : Act) : Type 0 where
  pub known : participants ps a ≢ []
  pub free : owner ps a ≡ None

-- what a room keeps
abbrev pub IsRoom : ProgramRoom → Type 0
IsRoom r = AreTold (environment r) r.inputs r.turns (new_in r) r.board.failure r.reports

-- the worker is the environment, which has not performed all inputs
abbrev pub HasInputsLeft : ProgramRoom → ℕ → Type 0
HasInputsLeft r w = (w ≡ environment r) × (place r < length r.inputs)

-- the worker's report is changed so, and nothing else
pub record ChangesReport (f : Report → Report) (w : ℕ) (r r' : ProgramRoom) : Type 0 where
  pub report : Changes f w r.reports r'.reports
  pub rest : r' ≡ record r { reports = r'.reports }
