use Rattle.std.proofs.Common.{◌≡◌, ◌++◌, drop, map, take}
use Rattle.ioa_serving.specs.Grouping.{merged}
use Rattle.ioa_serving.proofs.groups.merge.Given as goal

abbrev pub invariant-loop-i : goal.invariant-loop-i
invariant-loop-i l = l.groups ≡ map (merged l.from l.to) (take l.i l.fn.groups) ++ drop l.i l.fn.groups
