use Rattle.std.proofs.Common.{◌≡◌, length}
use Rattle.verify_bench.proofs.hostile.code.Given as goal

abbrev pub invariant-loop-place : goal.invariant-loop-place
invariant-loop-place l = length l.instrs.items ≡ l.place
