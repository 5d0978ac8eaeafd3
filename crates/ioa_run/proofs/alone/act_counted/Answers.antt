use Rattle.std.proofs.Common.{map}
use Rattle.std.specs.Option.{option_map}
use Rattle.ioa_board.specs.Wishes.{act_meant}
use Rattle.ioa_run.specs.Tallies.{tally_of}
use Rattle.ioa_run.proofs.Tallying.{agreeing_acts, follow_from}
use Rattle.ioa_run.proofs.alone.act_counted.Goals as goal

-- the tallies follow the reports
pub returns-clause-tallied : goal.returns-clause-tallied
returns-clause-tallied c =
    let r = c.args.room.now in
    let r' = c.act-end.new.room in
    let ts = map tally_of c.args.tallies.now.items in
    let us = map tally_of c.follow.new.tallies.items in
    agreeing_acts r r' c.args.who (option_map act_meant c.args.meant) c.act-end.result c.args.pick ts us c.act-end.ensures
    (follow_from c.args.pick c.args.who r r' c.report_of-before.result ts us c.follow.ensures c.report_of-before.ensures) c.requires.tallied
