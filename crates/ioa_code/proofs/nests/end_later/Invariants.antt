use Rattle.std.proofs.Common.{◌≡◌, true, take}
use Rattle.std.specs.Prelude.{nat_lt}
use Rattle.std.specs.List.{list_all}
use Rattle.ioa_code.specs.Loops.{past_at}
use Rattle.ioa_code.proofs.nests.end_later.Given as goal

abbrev pub invariant-loop-each : goal.invariant-loop-each
invariant-loop-each l = list_all (λ k. nat_lt l.to (past_at l.instrs k)) (take l.each-index l.round) ≡ true
