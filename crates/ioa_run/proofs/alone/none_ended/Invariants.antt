use Rattle.std.proofs.Common.{◌≡◌, false, replicate}
use Rattle.ioa_run.proofs.alone.none_ended.Given as goal

abbrev pub invariant-loop : goal.invariant-loop
invariant-loop l = l.ended.items ≡ replicate l.counter false
