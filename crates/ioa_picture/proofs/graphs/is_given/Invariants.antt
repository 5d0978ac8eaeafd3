use Rattle.std.proofs.Common.{◌≡◌, drop, map}
use Rattle.std.specs.List.{list_any}
use Rattle.ioa_tree.specs.declared.tree.Kind.{Kind}
use Rattle.ioa_compile.specs.Shown.{entry_code, member_code}
use Rattle.ioa_picture.specs.Graphs.{has_of}
use Rattle.ioa_picture.proofs.graphs.is_given.Given as goal

abbrev pub invariant-loop-member : goal.invariant-loop-member
invariant-loop-member l =
    list_any (has_of l.types Kind.Output (entry_code l.entry)) (map member_code (drop l.member-index l.members))
    ≡ list_any (has_of l.types Kind.Output (entry_code l.entry)) (map member_code l.members)
