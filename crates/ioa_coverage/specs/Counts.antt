-- Counts of a program's entries on their way.
use Rattle.std.specs.Prelude.{◌≡◌, ◌<◌, ◌+◌, ◌^◌, ℕ, All, List, count_by, length, map}
use Rattle.std.specs.List.{flat_map}
use Rattle.std.specs.String.{string_bytes}
use Rattle.ioa_value.specs.Actions.{Act, act_of}
use Rattle.ioa_compile.specs.Programs.{EntryCode, MemberCode, Prog}
use Rattle.ioa_compile.specs.Shown.{entry_code, member_code}
use Rattle.ioa_compile.specs.Tables.{is_in}
use Rattle.ioa_system.specs.declared.log.LogEntry.{LogEntry}
use Rattle.ioa_coverage.specs.declared.coverage.Row.{Row}
use Rattle.ioa_coverage.specs.Performed.{Counted, how_often}

-- the actions of these entries of a log
abbrev pub entered : List LogEntry → List Act
entered es = map (λ e. act_of e.action) es

-- how many of the actions the component's entry has
abbrev pub times_in : List Act → MemberCode → EntryCode → ℕ
times_in acts m e = count_by (λ a. is_in m.start.table a e) acts

-- an entry of a component's table, and a count
pub record CountRow : Type 0 where
  pub member : MemberCode
  pub entry : EntryCode
  pub times : ℕ

abbrev pub row_for : MemberCode → EntryCode → ℕ → CountRow
row_for m e n = record { member = m; entry = e; times = n }

abbrev pub count_row : Row → CountRow
count_row r = row_for (member_code r.member.now) (entry_code r.entry.now) r.times

-- the counts of these actions
abbrev pub member_rows : List Act → MemberCode → List CountRow
member_rows acts m = map (λ e. row_for m e (times_in acts m e)) m.entries

abbrev pub rows_of : Prog → List Act → List CountRow
rows_of p acts = flat_map (member_rows acts) p.members

-- each entry of the program is counted, over these actions
abbrev pub CountsAll : Prog → List Act → List Row → Type 0
CountsAll p acts rs = map count_row rs ≡ rows_of p acts

-- with more actions
abbrev pub with_more : List Act → CountRow → CountRow
with_more more s = row_for s.member s.entry (s.times + times_in more s.member s.entry)

-- so many more can be counted
abbrev pub IsRoomy : List LogEntry → Row → Type 0
IsRoomy log r = r.times + length log < 2 ^ 128

abbrev pub AreRoomy : List Row → List LogEntry → Type 0
AreRoomy rs log = All (IsRoomy log) rs

-- as it is told
abbrev pub told_row : Row → Counted
told_row r = how_often (string_bytes r.member.now.name) (string_bytes r.entry.now.name) r.times
