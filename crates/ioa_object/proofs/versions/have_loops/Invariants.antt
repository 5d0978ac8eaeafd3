use Rattle.std.proofs.Common.{◌≡◌, drop, map}
use Rattle.std.specs.List.{list_any}
use Rattle.ioa_compile.specs.Shown.{member_code}
use Rattle.ioa_object.specs.Versions.{member_loops}
use Rattle.ioa_object.proofs.versions.have_loops.Given as goal

abbrev pub invariant-loop-member : goal.invariant-loop-member
invariant-loop-member l = list_any member_loops (map member_code (drop l.member-index l.members)) ≡ list_any member_loops (map member_code l.members)
