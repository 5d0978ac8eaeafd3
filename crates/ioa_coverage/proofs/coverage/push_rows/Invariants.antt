use Rattle.std.proofs.Common.{◌≡◌, ◌++◌, [], map, take}
use Rattle.ioa_compile.specs.Shown.{entry_code, member_code}
use Rattle.ioa_coverage.specs.Counts.{row_for, count_row, times_in}
use Rattle.ioa_coverage.proofs.coverage.push_rows.Given as goal

-- the entries so far
abbrev pub invariant-loop-entry : goal.invariant-loop-entry
invariant-loop-entry l =
    map count_row l.rows.items
    ≡ map count_row l.initial.rows.items ++ map (λ e. row_for (member_code l.member) e (times_in [] (member_code l.member) e)) (map entry_code (take l.entry-index l.member.entries.items))
