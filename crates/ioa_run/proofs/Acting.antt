-- A turn is an attempt as it is defined.
use Rattle.std.proofs.Common.{◌≡◌, ℕ, Bool, true, false, cond, refl, sym, ◌∙◌, ap, subst}
use Rattle.ioa_value.specs.Actions.{Act}
use Rattle.std.specs.Prelude.{Some}
use Rattle.ioa_board.specs.declared.answer.Answer.{Answer}
use Rattle.ioa_run.specs.declared.turn.TurnEnd.{TurnEnd}
use Rattle.ioa_board.specs.Attempted.{RoomAttempt}
use Rattle.ioa_board.specs.Reports.{told_in, Changes}
use Rattle.ioa_board.specs.ProgramRooms.{ProgramRoom}
use Rattle.ioa_run.specs.Turning.{Acts, Attempts, end_of}
use Rattle.ioa_run.specs.Turns.{is_last}

module _ (r r' : ProgramRoom) (w : ℕ) (a : Act) (x : Answer) (h : RoomAttempt r w a x r') where
  attempts : (last : Bool) → is_last x ≡ last → Attempts r w a last r'
  attempts last e = record {
    board = h.board;
    answer = ap is_last (sym h.answer) ∙ e;
    report = subst (λ y. Changes (told_in r.turns y) w r.reports r'.reports) h.answer h.report;
    rest = h.rest;
  }

  by_last : (last : Bool) → is_last x ≡ last → Acts r w (Some a) (cond last TurnEnd.IsLast TurnEnd.GoesOn) r'
  by_last true e = attempts true e
  by_last false e = attempts false e

  pub acted : Acts r w (Some a) (end_of x) r'
  acted = by_last (is_last x) refl
