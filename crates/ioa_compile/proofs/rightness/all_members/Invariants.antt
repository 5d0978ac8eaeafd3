use Rattle.std.proofs.Common.{◌↔◌, map, drop}
use Rattle.ioa_compile.specs.Shown.{member_code}
use Rattle.ioa_compile.specs.Tables.{AreMembers}
use Rattle.ioa_compile.proofs.rightness.all_members.Given as goal

abbrev pub invariant-loop-member : goal.invariant-loop-member
invariant-loop-member l = AreMembers l.types (map member_code (drop l.member-index l.members)) ↔ AreMembers l.types (map member_code l.members)
