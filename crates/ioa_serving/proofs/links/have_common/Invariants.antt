use Rattle.std.proofs.Common.{◌≡◌, drop, map}
use Rattle.std.specs.List.{list_any}
use Rattle.ioa_compile.specs.Shown.{entry_code, member_code}
use Rattle.ioa_serving.specs.Links.{has_of}
use Rattle.ioa_serving.proofs.links.have_common.Given as goal

abbrev pub invariant-loop-entry : goal.invariant-loop-entry
invariant-loop-entry l =
    list_any (has_of l.types (member_code l.other)) (map entry_code (drop l.entry-index l.one.entries.items))
    ≡ list_any (has_of l.types (member_code l.other)) (map entry_code l.one.entries.items)
