use Rattle.std.proofs.Common.{◌≡◌, map, drop}
use Rattle.ioa_compile.specs.Shown.{entry_code}
use Rattle.ioa_compile.specs.Tables as tables
use Rattle.ioa_compile.proofs.rightness.has_output.Given as goal

abbrev pub invariant-loop-entry : goal.invariant-loop-entry
invariant-loop-entry l = tables.has_output (map entry_code (drop l.entry-index l.entries)) l.name ≡ tables.has_output (map entry_code l.entries) l.name
