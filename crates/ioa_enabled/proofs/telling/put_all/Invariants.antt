use Rattle.std.proofs.Common.{◌≡◌, ◌++◌, ℕ, List, map, string_bytes, take}
use Rattle.ioa_compose.specs.Held.{member_of}
use Rattle.ioa_compile.specs.Shown.{member_code}
use Rattle.ioa_system.specs.Systems.{values_of}
use Rattle.ioa_picture.specs.Lines.{numbered}
use Rattle.ioa_enabled.specs.Placed.{AreOfMembers}
use Rattle.ioa_enabled.specs.Told.{AllHaveWays, lines_at}
use Rattle.ioa_enabled.specs.Ways.{Values}
use Rattle.ioa_enabled.proofs.telling.put_all.Given as goal

-- the lines of the components so far
abbrev pub invariant-loop-i : goal.invariant-loop-i
invariant-loop-i l =
    (w : ℕ → ℕ → List Values) → AreOfMembers (map member_code l.codes) (values_of l.states) → AllHaveWays (map member_code l.codes) (values_of l.states) w
    → string_bytes l.text ≡ string_bytes l.fn.text ++ numbered (lines_at l.part l.types (map member_of l.members) (map member_code l.codes) w) 0 (take l.i (values_of l.states))
