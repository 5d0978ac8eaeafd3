use Rattle.std.proofs.Common.{◌≡◌, ◌++◌, map, take, string_bytes}
use Rattle.std.specs.List.{flat_map}
use Rattle.ioa_dump.specs.Dumps.{hidden_line}
use Rattle.ioa_dump.proofs.program.put_hidden.Given as goal

-- the lines of the names so far
abbrev pub invariant-loop-name : goal.invariant-loop-name
invariant-loop-name l = string_bytes l.text ≡ string_bytes l.initial.text ++ flat_map hidden_line (map string_bytes (take l.name-index l.names))
