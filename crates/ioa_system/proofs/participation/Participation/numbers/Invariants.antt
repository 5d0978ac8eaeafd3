use Rattle.std.proofs.Common.{◌≡◌, ◌++◌, drop}
use Rattle.ioa_system.specs.Found.{numbers_of}
use Rattle.ioa_system.proofs.participation.Participation.numbers.Given as goal

abbrev pub invariant-loop-participant : goal.invariant-loop-participant
invariant-loop-participant l =
    l.numbers.items ++ numbers_of (drop l.participant-index l.participant-items) ≡ numbers_of l.participant-items
