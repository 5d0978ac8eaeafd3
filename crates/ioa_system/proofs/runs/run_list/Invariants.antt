use Rattle.std.proofs.Common.{map, take}
use Rattle.ioa_value.specs.Actions.{act_of}
use Rattle.ioa_system.specs.Progress.{IsRunOver}
use Rattle.ioa_system.proofs.runs.run_list.Given as goal

abbrev pub invariant-loop-action : goal.invariant-loop-action
invariant-loop-action l = IsRunOver l.program (map act_of (take l.action-index l.actions)) (map act_of l.trace.items) l.runner
