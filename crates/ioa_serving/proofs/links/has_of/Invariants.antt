use Rattle.std.proofs.Common.{◌≡◌, drop, map}
use Rattle.std.specs.List.{list_any}
use Rattle.ioa_compile.specs.Shown.{entry_code}
use Rattle.ioa_serving.specs.Links.{share}
use Rattle.ioa_serving.proofs.links.has_of.Given as goal

abbrev pub invariant-loop-other : goal.invariant-loop-other
invariant-loop-other l =
    list_any (share l.types (entry_code l.entry)) (map entry_code (drop l.other-index l.member.entries.items))
    ≡ list_any (share l.types (entry_code l.entry)) (map entry_code l.member.entries.items)
