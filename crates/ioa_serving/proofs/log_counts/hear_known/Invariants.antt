use Rattle.std.proofs.Common.{map, take}
use Rattle.ioa_value.specs.Actions.{act_of}
use Rattle.ioa_serving.specs.LogCounts.{HasHeardKnown}
use Rattle.ioa_serving.proofs.log_counts.hear_known.Given as goal

-- the actions so far came
abbrev pub invariant-loop-action : goal.invariant-loop-action
invariant-loop-action l = HasHeardKnown l.program (take l.action-index (map act_of l.actions)) l.known
