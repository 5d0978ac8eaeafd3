use Rattle.std.proofs.Common.{◌≡◌, ◌+◌, ◌≤◌, List, filter, map}
use Rattle.std.specs.List.{range_with_len}
use Rattle.ioa_value.specs.Actions.{act_of}
use Rattle.ioa_parts.specs.Proposals.{values_in}
use Rattle.ioa_compile.specs.Shown.{member_code}
use Rattle.ioa_compile.specs.Tables.{table_component}
use Rattle.ioa_enabled.specs.Sampled.{shown}
use Rattle.ioa_enabled.specs.Ways.{Values, is_enabled, total, way}
use Rattle.ioa_enabled.proofs.offers.enabled_among.Given as goal

-- those of the combinations so far, which are no more than there are
abbrev pub invariant-loop-number : goal.invariant-loop-number
invariant-loop-number l =
    (cs : List Values) → map values_in l.columns ≡ map (shown (l.most + 1)) cs
    → (map act_of l.enabled.items ≡ filter (is_enabled (table_component (member_code l.member)) l.state.values) (map (way l.name cs) (range_with_len 0 l.number)))
    × (l.number ≤ total cs)
