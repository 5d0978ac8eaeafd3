use Rattle.std.proofs.Common.{◌≡◌, ◌++◌, take, string_bytes}
use Rattle.ioa_dump.specs.Dumps.{instruction_line}
use Rattle.ioa_picture.specs.Lines.{numbered}
use Rattle.ioa_dump.proofs.code.put_part.Given as goal

-- the lines of the instructions so far
abbrev pub invariant-loop-place : goal.invariant-loop-place
invariant-loop-place l = string_bytes l.text ≡ string_bytes l.initial.text ++ numbered (instruction_line l.types l.part) 0 (take l.place l.instrs)
