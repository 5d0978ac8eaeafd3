use Rattle.std.proofs.Common.{◌≡◌, ◌++◌, map, take}
use Rattle.std.specs.List.{flat_map}
use Rattle.ioa_value.specs.Positions.{domain_of}
use Rattle.ioa_object.specs.Spelling.{position}
use Rattle.ioa_object.proofs.writing.put_positions.Given as goal

abbrev pub invariant-loop-position : goal.invariant-loop-position
invariant-loop-position l = l.out.items ≡ l.initial.out.items ++ flat_map position (map domain_of (take l.position-index l.positions))
