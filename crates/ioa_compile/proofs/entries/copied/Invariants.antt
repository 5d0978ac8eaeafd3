use Rattle.std.proofs.Common.{◌≡◌, map, take}
use Rattle.ioa_value.specs.Positions.{domain_of}
use Rattle.ioa_compile.proofs.entries.copied.Given as goal

abbrev pub invariant-loop-position : goal.invariant-loop-position
invariant-loop-position l = map domain_of l.copies.items ≡ map domain_of (take l.position-index l.positions)
