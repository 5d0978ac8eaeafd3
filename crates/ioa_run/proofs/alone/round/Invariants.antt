use Rattle.std.proofs.Common.{map}
use Rattle.ioa_run.specs.Rounds.{GoesFirst}
use Rattle.ioa_run.specs.Tallies.{AreTallied, tally_of}
use Rattle.ioa_run.proofs.alone.round.Given as goal

-- the tallies agree with the reports behind each turn
abbrev pub invariant-loop-who : goal.invariant-loop-who
invariant-loop-who g l = record {
  goes : GoesFirst l.who l.fn.room (map g.W.Words.stream l.fn.words) l.fn.ended l.room (map g.W.Words.stream l.words) l.ended;
  tallied : AreTallied l.room (map tally_of l.tallies.items);
}
