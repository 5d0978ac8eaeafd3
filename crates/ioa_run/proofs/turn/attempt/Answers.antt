use Rattle.std.proofs.Common.{subst, sym, Some}
use Rattle.ioa_board.specs.Wishes.{act_meant}
use Rattle.ioa_run.specs.declared.turn.TurnEnd.{TurnEnd}
use Rattle.ioa_run.specs.Turning.{Acts}
use Rattle.ioa_run.proofs.Acting.{acted}
use Rattle.ioa_run.proofs.turn.attempt.Goals as goal

pub returns-in-Ok : goal.returns-in-Ok
returns-in-Ok c =
    subst (λ (e : TurnEnd). Acts c.args.room.now c.args.who (Some (act_meant c.args.wish)) e c.attempt.new.self) (sym c.end_by.ensures)
    (acted c.args.room.now c.attempt.new.self c.args.who (act_meant c.args.wish) c.in-Ok.answer c.in-Ok.ensures.attempt)
