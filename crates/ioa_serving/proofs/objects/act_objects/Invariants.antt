use Rattle.std.proofs.Common.{◌≡◌, ◌++◌, length}
use Rattle.ioa_value.specs.Lists.{lines}
use Rattle.ioa_serving.specs.Objects.{act_objects}
use Rattle.ioa_serving.proofs.objects.act_objects.Given as goal

-- to the objects so far come those of the lines that are left
abbrev pub invariant-loop-rest : goal.invariant-loop-rest
invariant-loop-rest l = l.objects.items ++ act_objects (lines l.rest) ≡ act_objects (lines l.text)

abbrev pub decreases-loop-rest : goal.decreases-loop-rest
decreases-loop-rest l = length l.rest
