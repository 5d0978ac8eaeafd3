use Rattle.std.proofs.Common.{◌≡◌, ◌++◌, ℕ, List, map, string_bytes, take}
use Rattle.ioa_compile.specs.Shown.{entry_code, member_code}
use Rattle.ioa_picture.specs.Lines.{numbered}
use Rattle.ioa_enabled.specs.Told.{HaveWays, code_lines}
use Rattle.ioa_enabled.specs.Ways.{Values}
use Rattle.ioa_enabled.proofs.telling.put_entries.Given as goal

-- the lines of the entries so far
abbrev pub invariant-loop-k : goal.invariant-loop-k
invariant-loop-k l =
    (w : ℕ → List Values) → HaveWays (member_code l.code) l.state.values w
    → string_bytes l.text ≡ string_bytes l.fn.text ++ numbered (code_lines l.part l.types l.name (member_code l.code) l.state.values w) 0 (take l.k (map entry_code l.code.entries.items))
