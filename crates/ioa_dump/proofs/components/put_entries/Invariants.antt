use Rattle.std.proofs.Common.{◌≡◌, ◌++◌, map, take, string_bytes}
use Rattle.std.specs.List.{flat_map}
use Rattle.ioa_compile.specs.Shown.{entry_code}
use Rattle.ioa_dump.specs.Dumps.{entry_lines}
use Rattle.ioa_dump.proofs.components.put_entries.Given as goal

-- the lines of the entries so far
abbrev pub invariant-loop-entry : goal.invariant-loop-entry
invariant-loop-entry l = string_bytes l.text ≡ string_bytes l.initial.text ++ flat_map (entry_lines l.types) (map entry_code (take l.entry-index l.entries))
