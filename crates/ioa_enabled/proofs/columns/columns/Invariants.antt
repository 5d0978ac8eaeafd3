use Rattle.std.proofs.Common.{◌≡◌, List, map, take}
use Rattle.ioa_parts.specs.Proposals.{values_in}
use Rattle.ioa_compile.specs.Shown.{entry_code}
use Rattle.ioa_enabled.specs.Sampled.{HasWays, shown}
use Rattle.ioa_enabled.specs.Ways.{Values}
use Rattle.ioa_enabled.proofs.columns.columns.Given as goal

-- those of the places so far
abbrev pub invariant-loop-place : goal.invariant-loop-place
invariant-loop-place l =
    (cs : List Values) → HasWays (entry_code l.entry) l.state.values cs → map values_in l.all.items ≡ map (shown l.most) (take l.place cs)
