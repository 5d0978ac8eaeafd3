use Rattle.std.proofs.Common.{◌≤◌, ◌<◌, ◌∙◌, ◌+◌, suc, true, false, ap, length, map, rules, arith}
use Rattle.std.specs.Prelude.{slice_set}
use Rattle.ioa_run.specs.Turning.{ends}
use Rattle.ioa_run.proofs.Tallying.{agreeing_same}
use Rattle.ioa_run.proofs.Taking.{first_ended, first_more, first_same, read_there, round_taken}
use Rattle.ioa_run.proofs.alone.round.Given.{Over}
use Rattle.ioa_run.proofs.alone.round.Goals as goal
use Rattle.ioa_run.proofs.alone.round.Goals.{Joined-not-ended-who, then-not-ended-who, else-not-ended-who}

within : (g : Over) (c : Joined-not-ended-who g) → c.loop-who.who < length c.loop-who.ended
within g c = let t : c.loop-who.who < length c.args.ended.now = search rules in omega (arith, t, c.loop-who.invariant.goes.follows.ended)

pub loop-who-preserved : goal.loop-who-preserved
loop-who-preserved g c =
    let stream = g.W.Words.stream in
    elim c.if-not-ended-who.branch [
      | then-not-ended-who w ↦ record {
        goes =
            first_same (suc c.loop-who.who) (c.loop-who.who + 1) c.args.room.now w.turn-end.new.room c.if-not-ended-who.room (map stream c.args.words.now) (map stream w.turn-end.new.words) (map stream c.if-not-ended-who.words)
            c.args.ended.now (slice_set c.loop-who.ended c.loop-who.who (ends w.turn-end.result)) c.if-not-ended-who.ended
            (omega arith) w.room-is (ap (map stream) w.words-is) (w.ended-is ∙ ap (slice_set c.loop-who.ended c.loop-who.who) w.is_last.ensures)
            (first_more c.loop-who.who c.args.room.now c.loop-who.room w.turn-end.new.room (map stream c.args.words.now) (map stream c.loop-who.words) (map stream w.turn-end.new.words)
            c.args.ended.now c.loop-who.ended w.turn-end.result c.loop-who.invariant.goes (read_there c.loop-who.ended c.loop-who.who false false (within g c) w.if-not-ended-who.true) (within g c) w.turn-end.ensures.takes);
        tallied = agreeing_same w.turn-end.new.room c.if-not-ended-who.room w.turn-end.new.tallies c.if-not-ended-who.tallies w.room-is w.tallies-is w.turn-end.ensures.tallied;
      }
      | else-not-ended-who w ↦ record {
        goes =
            first_same (suc c.loop-who.who) (c.loop-who.who + 1) c.args.room.now c.loop-who.room c.if-not-ended-who.room (map stream c.args.words.now) (map stream c.loop-who.words) (map stream c.if-not-ended-who.words)
            c.args.ended.now c.loop-who.ended c.if-not-ended-who.ended (omega arith) w.room-is (ap (map stream) w.words-is) w.ended-is
            (first_ended c.loop-who.who c.args.room.now c.loop-who.room (map stream c.args.words.now) (map stream c.loop-who.words) c.args.ended.now c.loop-who.ended c.loop-who.invariant.goes
            (read_there c.loop-who.ended c.loop-who.who false true (within g c) w.if-not-ended-who.false));
        tallied = agreeing_same c.loop-who.room c.if-not-ended-who.room c.loop-who.tallies c.if-not-ended-who.tallies w.room-is w.tallies-is c.loop-who.invariant.tallied;
      }
    ]

pub returns-clause-goes : goal.returns-clause-goes
returns-clause-goes g c =
    let least : length c.args.ended.now ≤ c.loop-who.who = search rules in
    let most : c.loop-who.who ≤ length c.args.ended.now = search rules in
    round_taken c.loop-who.who c.args.room.now c.loop-who.room (map g.W.Words.stream c.args.words.now) (map g.W.Words.stream c.loop-who.words) c.args.ended.now c.loop-who.ended
    (omega (arith, least, most, c.requires.ended)) c.requires.ended c.loop-who.invariant.goes
