use Rattle.std.proofs.Common.{◌≡◌, ◌++◌, ◌-◌, take, string_bytes}
use Rattle.ioa_object.specs.Spelling.{declared}
use Rattle.ioa_dump.specs.Dumps.{type_lines}
use Rattle.ioa_picture.specs.Lines.{numbered}
use Rattle.ioa_dump.proofs.types.put_types.Given as goal

-- the lines of the types so far
abbrev pub invariant-loop-number : goal.invariant-loop-number
invariant-loop-number l = string_bytes l.text ≡ string_bytes l.fn.text ++ numbered (type_lines l.types) 2 (take (l.number - 2) (declared l.types))
