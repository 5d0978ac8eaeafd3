use Rattle.std.proofs.Common.{map}
use Rattle.ioa_run.specs.Rounds.{GoesRounds}
use Rattle.ioa_run.specs.Tallies.{AreTallied, tally_of}
use Rattle.ioa_run.proofs.alone.take_turns.Given as goal

-- the tallies agree with the reports behind each round
abbrev pub invariant-loop : goal.invariant-loop
invariant-loop g l = record {
  goes : GoesRounds l.counter l.fn.room (map g.W.Words.stream l.fn.words) l.fn.ended l.room (map g.W.Words.stream l.words) l.ended;
  tallied : AreTallied l.room (map tally_of l.tallies.items);
}
