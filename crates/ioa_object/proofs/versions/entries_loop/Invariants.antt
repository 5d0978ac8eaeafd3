use Rattle.std.proofs.Common.{◌≡◌, drop, map}
use Rattle.std.specs.List.{list_any}
use Rattle.ioa_compile.specs.Shown.{entry_code}
use Rattle.ioa_object.specs.Versions.{entry_loops}
use Rattle.ioa_object.proofs.versions.entries_loop.Given as goal

abbrev pub invariant-loop-entry : goal.invariant-loop-entry
invariant-loop-entry l = list_any entry_loops (map entry_code (drop l.entry-index l.entries)) ≡ list_any entry_loops (map entry_code l.entries)
