use Rattle.std.proofs.Common.{length, map}
use Rattle.ioa_value.specs.Actions.{act_of}
use Rattle.ioa_serving.specs.Grouping.{AreLinked, HasJoined, Keeps}
use Rattle.ioa_serving.specs.Links.{are_linked}
use Rattle.ioa_serving.proofs.groups.join_linked.Given as goal

abbrev pub invariant-loop-other : goal.invariant-loop-other
invariant-loop-other l =
    AreLinked (are_linked l.program (map act_of l.script)) (length l.fn.groups) l.groups
    × Keeps l.fn.groups l.groups
    × HasJoined (are_linked l.program (map act_of l.script)) l.groups l.worker l.other
