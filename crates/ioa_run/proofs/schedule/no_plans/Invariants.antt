use Rattle.std.proofs.Common.{◌≡◌, None}
use Rattle.std.specs.Prelude.{replicate}
use Rattle.ioa_run.proofs.schedule.no_plans.Given as goal

abbrev pub invariant-loop : goal.invariant-loop
invariant-loop l = l.plans.items ≡ replicate l.counter None
