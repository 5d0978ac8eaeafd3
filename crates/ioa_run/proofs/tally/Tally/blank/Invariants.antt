use Rattle.std.proofs.Common.{◌≡◌, replicate}
use Rattle.ioa_run.specs.Tallies.{no_tries}
use Rattle.ioa_run.proofs.tally.Tally.blank.Given as goal

abbrev pub invariant-loop : goal.invariant-loop
invariant-loop l = l.entries.items ≡ replicate l.counter no_tries
