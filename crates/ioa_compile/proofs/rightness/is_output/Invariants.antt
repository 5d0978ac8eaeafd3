use Rattle.std.proofs.Common.{◌≡◌, map, drop}
use Rattle.ioa_compile.specs.Shown.{member_code}
use Rattle.ioa_compile.specs.Tables.{have_output}
use Rattle.ioa_compile.proofs.rightness.is_output.Given as goal

abbrev pub invariant-loop-member : goal.invariant-loop-member
invariant-loop-member l = have_output (map member_code (drop l.member-index l.members)) l.name ≡ have_output (map member_code l.members) l.name
