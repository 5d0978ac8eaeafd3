use Rattle.std.proofs.Common.{◌≡◌, ◌++◌, drop, map}
use Rattle.ioa_value.specs.Plain.{plain}
use Rattle.ioa_value.specs.Positions.{domain_of}
use Rattle.ioa_run.specs.Proposers.{filled}
use Rattle.ioa_enabled.proofs.samples.fill.Given as goal

abbrev pub invariant-loop-position : goal.invariant-loop-position
invariant-loop-position l =
    map plain l.all.items ++ filled (map domain_of (drop l.position-index l.positions)) (map plain (drop l.used l.values.items)) ≡ filled (map domain_of l.positions) (map plain l.fn.values.items)
