use Rattle.std.proofs.Common.{map}
use Rattle.ioa_value.specs.Actions.{act_of}
use Rattle.ioa_run.proofs.threads.run_threads.Given as goal

-- the run is of its own arguments
abbrev pub ghosts-run_on : goal.ghosts-run_on
ghosts-run_on g a = record { program = a.program.now; inputs = map act_of a.inputs.now; turns = a.turns; before = a.room.before }
