use Rattle.std.proofs.Common.{◌≡◌, ◌++◌, drop, map}
use Rattle.std.specs.Option.{option_map}
use Rattle.ioa_value.specs.Plain.{plain}
use Rattle.ioa_parts.specs.Proposals.{values_in}
use Rattle.ioa_enabled.specs.Offers.{picked}
use Rattle.ioa_enabled.proofs.combinations.combination.Given as goal

-- what comes behind the values so far
abbrev pub invariant-loop-column : goal.invariant-loop-column
invariant-loop-column l =
    option_map (λ vs. map plain l.values.items ++ vs) (picked (map values_in (drop l.column-index l.columns)) l.left) ≡ picked (map values_in l.columns) l.number
