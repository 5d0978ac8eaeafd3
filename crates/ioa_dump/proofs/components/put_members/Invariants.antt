use Rattle.std.proofs.Common.{◌≡◌, ◌++◌, map, take, string_bytes}
use Rattle.ioa_compile.specs.Shown.{member_code}
use Rattle.ioa_dump.specs.Dumps.{component_lines}
use Rattle.ioa_picture.specs.Lines.{numbered}
use Rattle.ioa_dump.proofs.components.put_members.Given as goal

-- the lines of the components so far
abbrev pub invariant-loop-i : goal.invariant-loop-i
invariant-loop-i l = string_bytes l.text ≡ string_bytes l.fn.text ++ numbered (component_lines l.types) 0 (take l.i (map member_code l.members))
