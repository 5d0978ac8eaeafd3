use Rattle.std.proofs.Common.{◌≡◌, ◌++◌, map, take}
use Rattle.std.specs.List.{flat_map}
use Rattle.ioa_compile.specs.Shown.{member_code}
use Rattle.ioa_object.specs.Spelling.{component}
use Rattle.ioa_object.proofs.writing.put_members.Given as goal

abbrev pub invariant-loop-member : goal.invariant-loop-member
invariant-loop-member l = l.out.items ≡ l.initial.out.items ++ flat_map component (map member_code (take l.member-index l.members))
