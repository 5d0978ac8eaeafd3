-- What a warning of the program stands for.
use Rattle.std.specs.Option.{option_copied}
use Rattle.ioa_warnings.specs.declared.dead.DeadTransition.{DeadTransition}
use Rattle.ioa_warnings.specs.declared.free.FreeParameter.{FreeParameter}
use Rattle.ioa_warnings.specs.Dead.{Dead}
use Rattle.ioa_warnings.specs.Free.{Free}

abbrev pub free_of : FreeParameter → Free
free_of f = record { parameter = f.parameter.now; action = f.action.now; line = f.line }

abbrev pub dead_of : DeadTransition → Dead
dead_of d = record { action = d.action.now; line = d.line; parameter = option_copied d.parameter }
