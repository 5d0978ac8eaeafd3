-- The board of a program.
use Rattle.std.specs.Prelude.{◌≡◌, List, Option, map, refl}
use Rattle.std.specs.Coded.{Coded, code_by, coded×}
use Rattle.std.specs.Option.{option_map}
use Rattle.ioa_value.specs.Plain.{Val}
use Rattle.ioa_parts.specs.Nodes.{Node}
use Rattle.ioa_compile.specs.Programs.{Prog}
use Rattle.ioa_compile.specs.Coded.{coded_prog}
use Rattle.ioa_compile.specs.Tables.{tabled, start_states}
use Rattle.ioa_system.specs.declared.log.LogEntry.{LogEntry}
use Rattle.ioa_system.specs.Logs.{log_entry}
use Rattle.ioa_system.specs.Systems.{slot_types, types_of, values_of}
use Rattle.ioa_board.specs.declared.recorded.Recorded.{Recorded}
use Rattle.ioa_board.specs.Boards.{Failure, Standing, IsSound, begun}
use Rattle.ioa_board.specs.Coded.{coded_standing}

pub record ProgramBoard : Type 0 where
  pub program : Prog
  pub board : Standing (List Val)

abbrev pub coded_program_board : Coded ProgramBoard
coded_program_board =
    code_by (Prog × Standing (List Val)) (coded× coded_prog coded_standing) (λ b. (b.program, b.board)) (λ p. record { program = p.0; board = p.1 }) (λ _. refl)

abbrev pub start_board : Prog → ProgramBoard
start_board p = record { program = p; board = begun (start_states p) }

-- a recorded fault without the memory that holds it
abbrev pub failure_of : Recorded → Failure
failure_of r = record { entry = log_entry r.entry; component = r.component; fault = r.fault }

abbrev pub standing : List LogEntry → List Node → Option Recorded → Standing (List Val)
standing h ns r = record { history = map log_entry h; states = values_of ns; failure = option_map failure_of r }

-- what the board keeps: the states are of their components' types, and with the history and the recorded fault they are sound
pub record IsBoard (p : Prog) (ns : List Node) (b : Standing (List Val)) : Type 0 where
  pub types : types_of ns ≡ slot_types p.members
  pub sound : IsSound (tabled p) (start_states p) b
