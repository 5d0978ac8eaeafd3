use Rattle.std.proofs.Common.{◌≡◌, map, take}
use Rattle.ioa_clash.specs.Clashes.{signed_of}
use Rattle.ioa_compile.specs.Clashes.{signed_entry}
use Rattle.ioa_compile.specs.Shown.{entry_code}
use Rattle.ioa_compile.proofs.compatibility.signature.Given as goal

abbrev pub invariant-loop-entry : goal.invariant-loop-entry
invariant-loop-entry l = map signed_of l.signature.items ≡ map signed_entry (map entry_code (take l.entry-index l.entries))
