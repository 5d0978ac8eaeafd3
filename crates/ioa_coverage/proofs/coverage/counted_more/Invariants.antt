use Rattle.std.proofs.Common.{◌≡◌, map, take}
use Rattle.ioa_coverage.specs.Counts.{entered, count_row, with_more}
use Rattle.ioa_coverage.proofs.coverage.counted_more.Given as goal

-- the rows so far
abbrev pub invariant-loop-row : goal.invariant-loop-row
invariant-loop-row l = map count_row l.more.items ≡ map (with_more (entered l.log)) (map count_row (take l.row-index l.rows))
