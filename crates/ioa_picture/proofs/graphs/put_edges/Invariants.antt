use Rattle.std.proofs.Common.{◌≡◌, ◌++◌, map, take, string_bytes}
use Rattle.ioa_compile.specs.Shown.{member_code}
use Rattle.ioa_picture.specs.Graphs.{member_edges}
use Rattle.ioa_picture.specs.Lines.{numbered}
use Rattle.ioa_picture.proofs.graphs.put_edges.Given as goal

-- the edges of the components so far
abbrev pub invariant-loop-i : goal.invariant-loop-i
invariant-loop-i l = string_bytes l.text ≡ string_bytes l.fn.text ++ numbered (member_edges l.program) 0 (take l.i (map member_code l.members))
