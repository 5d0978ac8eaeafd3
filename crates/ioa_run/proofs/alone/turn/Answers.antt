use Rattle.std.proofs.Common.{◌≡◌, ◌∙◌, true, false, map, sym}
use Rattle.std.specs.Option.{option_map}
use Rattle.ioa_board.specs.Wishes.{act_meant}
use Rattle.ioa_board.specs.declared.report.Why.{Why}
use Rattle.ioa_run.specs.Tallies.{tally_of}
use Rattle.ioa_run.proofs.Taking.{takes_turn}
use Rattle.ioa_run.proofs.Tallying.{agreeing_left}
use Rattle.ioa_run.proofs.alone.turn.Goals as goal

pub returns-else-is_refused-clause-takes : goal.returns-else-is_refused-clause-takes
returns-else-is_refused-clause-takes g c =
    takes_turn c.args.room.now c.act_counted-end.new.room (map g.W.Words.stream c.args.words.now) (map g.W.Words.stream c.wish.new.words) c.args.who (option_map act_meant c.in-Ok.meant) c.act_counted-end.result
    c.in-Ok.ensures.wishes c.act_counted-end.ensures.acts (λ e. (let t = c.is_refused.ensures.1 e in let f = c.if-is_refused.false in let q : false ≡ true = sym f ∙ t in cc))

-- a worker that leaves changes no tally
pub returns-then-is_refused-clause-tallied : goal.returns-then-is_refused-clause-tallied
returns-then-is_refused-clause-tallied g c =
    agreeing_left c.act_counted-end.new.room c.leave-then-is_refused.new.self c.args.who c.act_counted-end.new.room.turns Why.Memory (map tally_of c.act_counted-end.new.tallies.items) c.leave-then-is_refused.ensures c.act_counted-end.ensures.tallied

pub returns-in_default-clause-tallied : goal.returns-in_default-clause-tallied
returns-in_default-clause-tallied g c =
    agreeing_left c.args.room.now c.leave.new.self c.args.who c.args.room.now.turns Why.Memory (map tally_of c.args.tallies.now.items) c.leave.ensures c.requires.tallied
