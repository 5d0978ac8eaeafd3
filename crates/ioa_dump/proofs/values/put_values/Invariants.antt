use Rattle.std.proofs.Common.{◌≡◌, ◌++◌, map, take, string_bytes}
use Rattle.ioa_value.specs.Plain.{plain}
use Rattle.ioa_dump.specs.Dumps.{value_line}
use Rattle.ioa_picture.specs.Lines.{numbered}
use Rattle.ioa_dump.proofs.values.put_values.Given as goal

-- the lines of the values so far
abbrev pub invariant-loop-i : goal.invariant-loop-i
invariant-loop-i l = string_bytes l.text ≡ string_bytes l.fn.text ++ numbered (value_line l.label l.types) 0 (take l.i (map plain l.values))
