use Rattle.std.proofs.Common.{◌≡◌, drop}
use Rattle.ioa_value.specs.Lists.{lines}
use Rattle.ioa_account.proofs.lines.behind.Given as goal

-- the lines that are left are those behind the ones that are passed
abbrev pub invariant-loop : goal.invariant-loop
invariant-loop l = lines l.rest ≡ drop l.counter (lines l.text)
