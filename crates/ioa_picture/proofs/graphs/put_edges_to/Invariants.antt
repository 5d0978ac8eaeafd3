use Rattle.std.proofs.Common.{◌≡◌, ◌++◌, take, string_bytes}
use Rattle.std.specs.List.{flat_map}
use Rattle.ioa_picture.specs.Graphs.{edge}
use Rattle.ioa_picture.proofs.graphs.put_edges_to.Given as goal

-- the edges so far
abbrev pub invariant-loop-to : goal.invariant-loop-to
invariant-loop-to l = string_bytes l.text ≡ string_bytes l.initial.text ++ flat_map (edge l.from l.name l.style) (take l.to-index l.numbers)
