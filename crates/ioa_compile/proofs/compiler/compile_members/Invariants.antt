use Rattle.std.proofs.Common.{map, take}
use Rattle.std.specs.List.{AllZip}
use Rattle.ioa_compose.specs.Held.{member_of}
use Rattle.ioa_compile.specs.Shown.{member_code}
use Rattle.ioa_compile.specs.Translated.{DoesSame}
use Rattle.ioa_compile.proofs.compiler.compile_members.Given as goal

abbrev pub invariant-loop-member : goal.invariant-loop-member
invariant-loop-member l = AllZip DoesSame (map member_of (take l.member-index l.members)) (map member_code l.codes.items)
