use Rattle.std.proofs.Common.{◌≡◌, map, take}
use Rattle.ioa_tree.specs.View.{position_of}
use Rattle.ioa_crash.proofs.copies.copied_positions.Given as goal

abbrev pub invariant-loop-position : goal.invariant-loop-position
invariant-loop-position l = map position_of l.out.items ≡ map position_of (take l.position-index l.positions)
