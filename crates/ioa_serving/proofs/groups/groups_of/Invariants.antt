use Rattle.std.proofs.Common.{◌+◌, length, map}
use Rattle.ioa_value.specs.Actions.{act_of}
use Rattle.ioa_serving.specs.Links.{are_linked}
use Rattle.ioa_serving.proofs.Grouping.{HaveJoined}
use Rattle.ioa_serving.proofs.groups.groups_of.Given as goal

abbrev pub invariant-loop-worker : goal.invariant-loop-worker
invariant-loop-worker l = HaveJoined (are_linked l.program (map act_of l.script)) (length l.program.members + 1) l.worker l.groups.items
