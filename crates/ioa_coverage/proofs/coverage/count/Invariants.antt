use Rattle.std.proofs.Common.{◌≡◌, ◌≤◌, take}
use Rattle.ioa_compile.specs.Shown.{entry_code, member_code}
use Rattle.ioa_coverage.specs.Counts.{entered, times_in}
use Rattle.ioa_coverage.proofs.coverage.count.Given as goal

-- how many of the actions so far
abbrev pub invariant-loop-told : goal.invariant-loop-told
invariant-loop-told l = record {
  counted : l.count ≡ times_in (take l.told-index (entered l.log)) (member_code l.member) (entry_code l.entry);
  within : l.count ≤ l.told-index;
}
