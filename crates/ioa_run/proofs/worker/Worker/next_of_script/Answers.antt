use Rattle.std.proofs.Common.{subst}
use Rattle.std.specs.Prelude.{IfOk, IfSome}
use Rattle.ioa_compile.specs.Programs.{Prog}
use Rattle.ioa_board.specs.Wishes.{IsWishOf}
use Rattle.ioa_run.proofs.worker.Worker.next_of_script.Goals as goal

pub returns : goal.returns
returns g c = subst (λ (p : Prog). IfOk c.next_input.result (λ r. IfSome r (IsWishOf p))) c.args.self.now.crew.now.own c.next_input.ensures.known
