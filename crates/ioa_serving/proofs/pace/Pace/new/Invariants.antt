use Rattle.std.proofs.Common.{◌≡◌, ◌++◌, drop, map}
use Rattle.ioa_serving.specs.Pacing.{unseen}
use Rattle.ioa_serving.proofs.pace.Pace.new.Given as goal

abbrev pub invariant-loop-group : goal.invariant-loop-group
invariant-loop-group l = l.workers.items ++ map unseen (drop l.group-index l.groups) ≡ map unseen l.groups
