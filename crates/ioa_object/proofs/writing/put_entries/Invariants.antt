use Rattle.std.proofs.Common.{◌≡◌, ◌++◌, map, take}
use Rattle.std.specs.List.{flat_map}
use Rattle.ioa_compile.specs.Shown.{entry_code}
use Rattle.ioa_object.specs.Spelling.{entry}
use Rattle.ioa_object.proofs.writing.put_entries.Given as goal

abbrev pub invariant-loop-entry : goal.invariant-loop-entry
invariant-loop-entry l = l.out.items ≡ l.initial.out.items ++ flat_map entry (map entry_code (take l.entry-index l.entries))
