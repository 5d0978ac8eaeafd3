use Rattle.std.proofs.Common.{◌≡◌, map, take}
use Rattle.ioa_tree.specs.declared.tree.Kind.{Kind}
use Rattle.ioa_compile.specs.Shown.{entry_code, member_code}
use Rattle.ioa_picture.specs.Graphs.{has_of}
use Rattle.ioa_picture.specs.Lines.{numbers}
use Rattle.ioa_picture.proofs.graphs.takers.Given as goal

-- the numbers among the components so far
abbrev pub invariant-loop-i : goal.invariant-loop-i
invariant-loop-i l = l.takers.items ≡ numbers (has_of l.types Kind.Input (entry_code l.entry)) 0 (take l.i (map member_code l.members))
