use Rattle.std.proofs.Common.{Option, subst}
use Rattle.std.specs.Prelude.{IfSome}
use Rattle.ioa_board.specs.Wishes.{IsWishOf}
use Rattle.ioa_board.specs.declared.wish.Wish.{Wish}
use Rattle.ioa_run.proofs.turn.act.Goals as goal

pub attempt-requires-clause-known : goal.attempt-requires-clause-known
attempt-requires-clause-known c = subst (λ (o : Option Wish). IfSome o (IsWishOf c.args.room.now.program)) c.in-Some.is c.requires.known
