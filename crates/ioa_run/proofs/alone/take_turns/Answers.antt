use Rattle.std.proofs.Common.{◌≤◌, map, ◌+◌, suc, rules, arith}
use Rattle.ioa_run.proofs.Taking.{rounds_more, rounds_none, rounds_same}
use Rattle.ioa_run.proofs.alone.take_turns.Goals as goal

pub loop-init : goal.loop-init
loop-init g c = record { goes = rounds_none c.args.room.now (map g.W.Words.stream c.args.words.now) c.args.ended.now; tallied = c.requires.tallied }

pub loop-preserved : goal.loop-preserved
loop-preserved g c = record {
  goes =
      rounds_same (suc c.loop.counter) (c.loop.counter + 1) c.args.room.now c.round.new.room (map g.W.Words.stream c.args.words.now) (map g.W.Words.stream c.round.new.words) c.args.ended.now c.round.new.ended (omega arith)
      (rounds_more c.loop.counter c.args.room.now c.loop.room c.round.new.room (map g.W.Words.stream c.args.words.now) (map g.W.Words.stream c.loop.words) (map g.W.Words.stream c.round.new.words)
      c.args.ended.now c.loop.ended c.round.new.ended c.loop.invariant.goes c.round.ensures.goes);
  tallied = c.round.ensures.tallied;
}

pub returns-clause-goes : goal.returns-clause-goes
returns-clause-goes g c =
    let least : c.args.turns ≤ c.loop.counter = search rules in
    let most : c.loop.counter ≤ c.args.turns = search rules in
    rounds_same c.loop.counter c.args.turns c.args.room.now c.loop.room (map g.W.Words.stream c.args.words.now) (map g.W.Words.stream c.loop.words) c.args.ended.now c.loop.ended
    (omega (arith, least, most)) c.loop.invariant.goes
