use Rattle.std.proofs.Common.{◌≡◌, map, take}
use Rattle.ioa_clash.specs.Clashes.{signature_of}
use Rattle.ioa_compile.specs.Clashes.{signature_in}
use Rattle.ioa_compile.specs.Shown.{member_code}
use Rattle.ioa_compile.proofs.compatibility.signatures.Given as goal

abbrev pub invariant-loop-member : goal.invariant-loop-member
invariant-loop-member l = map signature_of l.signatures.items ≡ map signature_in (map member_code (take l.member-index l.members))
