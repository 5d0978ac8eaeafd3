use Rattle.std.proofs.Common.{◌≡◌, ◌++◌, map, take, string_bytes}
use Rattle.ioa_value.specs.Shapes.{tuple_field}
use Rattle.ioa_dump.specs.Dumps.{field_line}
use Rattle.ioa_picture.specs.Lines.{numbered}
use Rattle.ioa_dump.proofs.types.put_fields.Given as goal

-- the lines of the fields so far
abbrev pub invariant-loop-i : goal.invariant-loop-i
invariant-loop-i l = string_bytes l.text ≡ string_bytes l.fn.text ++ numbered (field_line l.types) 0 (take l.i (map tuple_field l.fields))
