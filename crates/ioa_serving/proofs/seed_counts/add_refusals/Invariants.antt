use Rattle.std.proofs.Common.{◌≡◌, map, option_map, take}
use Rattle.ioa_system.specs.Outcomes.{ending_of}
use Rattle.ioa_serving.specs.Seeds.{with_refusals}
use Rattle.ioa_serving.proofs.seed_counts.add_refusals.Given as goal

-- the answers of the first ones are counted
abbrev pub invariant-loop-place : goal.invariant-loop-place
invariant-loop-place l = l.counts ≡ with_refusals l.fn.counts (take l.place (map (option_map ending_of) l.answers))
