use Rattle.std.proofs.Common.{◌≡◌, ◌++◌, map, take, string_bytes}
use Rattle.std.specs.List.{flat_map}
use Rattle.ioa_compile.specs.Shown.{entry_code}
use Rattle.ioa_picture.specs.Graphs.{entry_edges}
use Rattle.ioa_picture.proofs.graphs.put_member_edges.Given as goal

-- the edges of the entries so far
abbrev pub invariant-loop-entry : goal.invariant-loop-entry
invariant-loop-entry l = string_bytes l.text ≡ string_bytes l.initial.text ++ flat_map (entry_edges l.program l.number) (map entry_code (take l.entry-index l.entries))
