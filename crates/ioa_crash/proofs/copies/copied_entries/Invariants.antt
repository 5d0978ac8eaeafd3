use Rattle.std.proofs.Common.{◌≡◌, map, take}
use Rattle.ioa_tree.specs.View.{entry_of}
use Rattle.ioa_crash.proofs.copies.copied_entries.Given as goal

abbrev pub invariant-loop-entry : goal.invariant-loop-entry
invariant-loop-entry l = map entry_of l.out.items ≡ map entry_of (take l.entry-index l.entries)
