use Rattle.std.proofs.Common.{◌≡◌, ◌++◌, map, take, string_bytes}
use Rattle.ioa_picture.specs.Charts.{lines_within}
use Rattle.ioa_picture.specs.Lines.{numbered}
use Rattle.ioa_picture.proofs.charts.put_entries.Given as goal

-- the lines of the entries so far
abbrev pub invariant-loop-i : goal.invariant-loop-i
invariant-loop-i l = string_bytes l.text ≡ string_bytes l.fn.text ++ numbered (lines_within l.from l.to) 0 (take l.i (map string_bytes l.entries))
