-- What the commit of a plan to a program's board answers.
use Rattle.std.specs.Prelude.{◌≡◌, List}
use Rattle.ioa_value.specs.Plain.{Val}
use Rattle.ioa_tree.specs.Steps.{next, step}
use Rattle.ioa_compile.specs.Tables.{tabled}
use Rattle.ioa_board.specs.declared.answer.Answer.{Answer}
use Rattle.ioa_board.specs.declared.verdict.Verdict.{Verdict}
use Rattle.ioa_board.specs.Boards.{Commits, IsCurrent}
use Rattle.ioa_board.specs.ProgramBoards.{ProgramBoard}
use Rattle.ioa_board.specs.ProgramPlans.{ProgramPlan}

-- the schedule machine's answer, and what then stands
pub record Commit (b : ProgramBoard) (p : ProgramPlan) (a : Answer) (b' : ProgramBoard) : Type 0 where
  pub commits : Commits (tabled b.program) p.who p.intent b.board a b'.board
  pub program : b'.program ≡ b.program

-- memory was refused for an action that is performed: the plan is given back, and the board is as it was
pub record GivesBack (b : ProgramBoard) (p q : ProgramPlan) (b' : ProgramBoard) : Type 0 where
  pub current : IsCurrent (tabled b.program) p.intent b.board
  pub performed : (ts : List (List Val)) × (step (tabled b.program) p.intent.action b.board.states ≡ next ts)
  pub plan : q ≡ p
  pub board : b' ≡ b

abbrev pub Decides : ProgramBoard → ProgramPlan → Verdict → ProgramBoard → Type 0
Decides b p Verdict.Stopped b' = Commit b p Answer.Stopped b'
Decides b p Verdict.Stale b' = Commit b p Answer.Stale b'
Decides b p (Verdict.Faulted c f) b' = Commit b p (Answer.Faulted c f) b'
Decides b p (Verdict.Committed n) b' = Commit b p (Answer.Committed n) b'
Decides b p (Verdict.Memory q) b' = GivesBack b p q b'
