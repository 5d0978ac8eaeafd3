use Rattle.std.proofs.Common.{◌≡◌, ◌++◌, map, take}
use Rattle.std.specs.List.{flat_map}
use Rattle.ioa_tree.specs.View.{position_of}
use Rattle.ioa_warnings.specs.Free.{free_at, lined}
use Rattle.ioa_warnings.specs.Shown.{free_of}
use Rattle.ioa_warnings.proofs.free.add_in.Given as goal

-- those at the positions so far
abbrev pub invariant-loop-position : goal.invariant-loop-position
invariant-loop-position l =
    map free_of l.found.items
    ≡ map free_of l.initial.found.items
    ++ flat_map (free_at (lined l.transition)) (map position_of (take l.position-index l.entry.positions.items))
