use Rattle.std.proofs.Common.{◌≡◌, drop, map}
use Rattle.ioa_compile.specs.Shown.{member_code}
use Rattle.ioa_watch.specs.Names.{names_from, names_of, shown}
use Rattle.ioa_watch.proofs.names.Names.of.Given as goal

abbrev pub invariant-loop-member : goal.invariant-loop-member
invariant-loop-member l = names_from (shown l.names.list.items) (map member_code (drop l.member-index l.members)) ≡ names_of (map member_code l.members)
