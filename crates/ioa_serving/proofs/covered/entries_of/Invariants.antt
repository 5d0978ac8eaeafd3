use Rattle.std.proofs.Common.{◌≡◌, map}
use Rattle.ioa_value.specs.Actions.{act_of}
use Rattle.ioa_coverage.specs.Counts.{entered}
use Rattle.ioa_serving.proofs.covered.entries_of.Given as goal

-- the entries of the actions so far
abbrev pub invariant-loop-action : goal.invariant-loop-action
invariant-loop-action l = entered l.entries.items ≡ map act_of l.yielded
