use Rattle.std.proofs.Common.{◌≡◌, [], map, take}
use Rattle.std.specs.List.{flat_map}
use Rattle.ioa_compile.specs.Shown.{member_code}
use Rattle.ioa_coverage.specs.Counts.{member_rows, count_row}
use Rattle.ioa_coverage.proofs.coverage.rows_before.Given as goal

-- the components so far
abbrev pub invariant-loop-member : goal.invariant-loop-member
invariant-loop-member l = map count_row l.rows.items ≡ flat_map (member_rows []) (map member_code (take l.member-index l.members))
