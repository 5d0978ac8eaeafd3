use Rattle.std.proofs.Common.{◌↔◌, map, drop}
use Rattle.ioa_compile.specs.Shown.{entry_code, member_code}
use Rattle.ioa_compile.specs.Tables.{AreEntries}
use Rattle.ioa_compile.proofs.rightness.all_entries.Given as goal

abbrev pub invariant-loop-entry : goal.invariant-loop-entry
invariant-loop-entry l = AreEntries (member_code l.member) (map entry_code (drop l.entry-index l.entries)) ↔ AreEntries (member_code l.member) (map entry_code l.entries)
