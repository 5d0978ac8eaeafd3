use Rattle.std.proofs.Common.{◌≡◌, ◌++◌, map, take, string_bytes}
use Rattle.ioa_compile.specs.Shown.{member_code}
use Rattle.ioa_picture.specs.Charts.{worker_line}
use Rattle.ioa_picture.specs.Lines.{numbered}
use Rattle.ioa_picture.proofs.charts.put_components.Given as goal

-- the lines of the components so far
abbrev pub invariant-loop-i : goal.invariant-loop-i
invariant-loop-i l = string_bytes l.text ≡ string_bytes l.fn.text ++ numbered worker_line 0 (take l.i (map (λ m. m.name) (map member_code l.members)))
