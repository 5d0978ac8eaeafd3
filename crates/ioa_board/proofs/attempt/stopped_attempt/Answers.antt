use Rattle.std.proofs.Common.{subst, sym}
use Rattle.ioa_value.specs.Actions.{Act, act_of}
use Rattle.ioa_board.specs.declared.answer.Answer.{Answer}
use Rattle.ioa_board.specs.Attempted.{BoardAttempt}
use Rattle.ioa_board.proofs.Attempted.{stopped_planned}
use Rattle.ioa_board.proofs.attempt.stopped_attempt.Goals as goal

pub returns : goal.returns
returns c =
    let b = c.args.board.now in
    subst (λ (a : Act). BoardAttempt b c.args.who a c.answer_stopped.result b) c.in_ok-action.ensures
    (subst (λ (x : Answer). BoardAttempt b c.args.who (act_of c.in_ok-action.action) x b) (sym c.answer_stopped.ensures)
    (stopped_planned b c.args.who (act_of c.in_ok-action.action) c.in_ok-planned.planned c.requires c.in_ok-planned.ensures))
