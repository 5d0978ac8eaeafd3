use Rattle.std.proofs.Common.{Option, subst}
use Rattle.std.specs.Prelude.{IfSome}
use Rattle.ioa_board.specs.Wishes.{IsWishOf}
use Rattle.ioa_board.specs.declared.wish.Wish.{Wish}
use Rattle.ioa_run.proofs.worker.Worker.turn.Goals as goal

pub attempt-requires : goal.attempt-requires
attempt-requires g c = subst (λ (o : Option Wish). IfSome o (IsWishOf g.T.Terms.program)) c.in-Some.is c.in_ok-meant.ensures
