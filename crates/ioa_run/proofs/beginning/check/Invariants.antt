use Rattle.std.proofs.Common.{map}
use Rattle.ioa_value.specs.Actions.{act_of}
use Rattle.ioa_compile.specs.Tables.{tabled}
use Rattle.ioa_board.specs.ProgramRooms.{IsInput}
use Rattle.ioa_run.proofs.Ending.{Before}
use Rattle.ioa_run.proofs.beginning.check.Given as goal

abbrev pub invariant-loop-i : goal.invariant-loop-i
invariant-loop-i l = Before (IsInput (tabled l.program)) (map act_of l.inputs) l.i
