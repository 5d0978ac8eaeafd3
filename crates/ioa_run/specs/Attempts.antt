-- An attempt is what the schedule machine answers to a worker's copy and, where that is planned, to its commit at once.
use Rattle.std.specs.Prelude.{◌≡◌, ◌<◌, ℕ, List, length}
use Rattle.ioa_value.specs.Actions.{Act}
use Rattle.ioa_value.specs.Plain.{Val}
use Rattle.ioa_tree.specs.Components.{Component}
use Rattle.ioa_board.specs.Boards.{Standing, attempt}
use Rattle.ioa_run.specs.Schedules.{Answers, Schedule, commit, copy}
use Rattle.ioa_board.specs.declared.answer.Answer.{Answer}

-- the copy is refused so, and no board changes
abbrev pub IsCopyRefused : {S : Type 0} → List (Component S) → ℕ → Act → Schedule S → Answer → Standing S → Type 0
IsCopyRefused {S} ps w a s x b = (t : Schedule S) × Answers ps (copy w a) s x t × (t.board ≡ s.board) × (b ≡ s.board)

-- the copy is planned, and the commit that follows is answered so
abbrev pub IsCommitted : {S : Type 0} → List (Component S) → ℕ → Act → Schedule S → Answer → Standing S → Type 0
IsCommitted {S} ps w a s x b = (t u : Schedule S) × Answers ps (copy w a) s Answer.Planned t × Answers ps (commit w) t x u × (u.board ≡ b)

abbrev pub IsAttempt : {S : Type 0} → List (Component S) → ℕ → Act → Schedule S → Answer → Standing S → Type 0
IsAttempt ps w a s Answer.NotAnAction b = IsCopyRefused ps w a s Answer.NotAnAction b
IsAttempt ps w a s Answer.NotYours b = IsCopyRefused ps w a s Answer.NotYours b
IsAttempt ps w a s Answer.NotEnabled b = IsCopyRefused ps w a s Answer.NotEnabled b
IsAttempt ps w a s Answer.Stopped b = IsCommitted ps w a s Answer.Stopped b
IsAttempt ps w a s (Answer.Faulted c f) b = IsCommitted ps w a s (Answer.Faulted c f) b
IsAttempt ps w a s (Answer.Committed n) b = IsCommitted ps w a s (Answer.Committed n) b
IsAttempt ps w a s Answer.Planned b = ⊥
IsAttempt ps w a s Answer.NoPlan b = ⊥
IsAttempt ps w a s Answer.Stale b = ⊥

-- so is every attempt of a worker that has a place for its plan
abbrev pub AttemptsAnswer : Type 0
AttemptsAnswer =
    (ps : List (Component (List Val))) (w : ℕ) (a : Act) (s : Schedule (List Val)) → w < length s.plans
    → IsAttempt ps w a s (attempt ps w a s.board).0 (attempt ps w a s.board).1
