use Rattle.std.proofs.Common.{◌≡◌, ◌++◌, map, take, string_bytes}
use Rattle.ioa_value.specs.Positions.{domain_of}
use Rattle.ioa_dump.specs.Dumps.{position_line}
use Rattle.ioa_picture.specs.Lines.{numbered}
use Rattle.ioa_dump.proofs.components.put_positions.Given as goal

-- the lines of the positions so far
abbrev pub invariant-loop-i : goal.invariant-loop-i
invariant-loop-i l = string_bytes l.text ≡ string_bytes l.fn.text ++ numbered (position_line l.types) 0 (take l.i (map domain_of l.positions))
