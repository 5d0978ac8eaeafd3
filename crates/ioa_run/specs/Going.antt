-- Turns that are taken as they are defined, unless memory is refused to a worker.
use Rattle.std.specs.Prelude.{◌≡◌, ◌≢◌, ◌⊎◌, ◌+◌, ◌<◌, ◌≤◌, ℕ, List, Bool, true, false, Option, Some, IsSome, cond, length, slice_get, unwrap_or}
use Rattle.ioa_tree.specs.Components.{Component}
use Rattle.ioa_value.specs.Actions.{Act}
use Rattle.ioa_board.specs.declared.report.Report.{Report}
use Rattle.ioa_board.specs.declared.report.Why.{Why}
use Rattle.ioa_board.specs.Boards.{Failure}
use Rattle.ioa_board.specs.Reports.{counted, left}
use Rattle.ioa_run.specs.Turns.{Proposer, Turns, meant, turned}

-- the report of whoever takes more turns says no other thing
abbrev pub AreGoing : {S : Type 0} → Turns S → Type 0
AreGoing t = (w : ℕ) (q : Report) → slice_get t.ended w ≡ Some false → slice_get t.reports w ≡ Some q → q.why ≡ Why.Stopped

-- memory was refused to a worker, which has ended
pub record IsRefused (rs : List Report) (es : List Bool) : Type 0 where
  pub worker : ℕ
  pub report : Report
  pub there : slice_get rs worker ≡ Some report
  pub memory : report.why ≡ Why.Memory
  pub ended : slice_get es worker ≡ Some true

-- whether and how a worker is told that its turns are done, where each has so many
abbrev pub dismissed : ℕ → List Bool → ℕ → Report → Report
dismissed turns es w q = cond (unwrap_or (slice_get es w) true) q (left turns Why.TurnsDone q)

-- where it goes on, the worker takes the turn that is defined; and other reports stay
pub record IsTurn {S : Type 0} (ps : List (Component S)) (entries : List (List (Proposer S))) (inputs : List Act) (w : ℕ) (t t' : Turns S) : Type 0 where
  pub others : (v : ℕ) → v ≢ w → slice_get t'.reports v ≡ slice_get t.reports v
  pub kept : (v : ℕ) → v ≢ w → slice_get t'.ended v ≡ slice_get t.ended v
  pub words : length t'.words ≡ length t.words
  pub ended : length t'.ended ≡ length t.ended
  pub turn : ((q : Report) → slice_get t.reports w ≡ Some q → q.why ≡ Why.Stopped) → t' ≡ turned ps w (meant ps entries inputs w t) t

-- these turns are taken as they are defined, unless memory is refused to a worker; and that stays told
pub record Follows {S : Type 0} (go : Turns S → Turns S) (t t' : Turns S) : Type 0 where
  pub words : length t'.words ≡ length t.words
  pub ended : length t'.ended ≡ length t.ended
  pub follows : AreGoing t → (t' ≡ go t) ⊎ IsRefused t'.reports t'.ended
  pub refused : IsRefused t.reports t.ended → IsRefused t'.reports t'.ended

-- ---- who takes more turns, and who takes none

-- in the round after n rounds, the first k workers have had their turns
pub record Counts (n k v : ℕ) (q : Report) : Type 0 where
  pub had : v < k → counted q ≡ n + 1
  pub before : k ≤ v → counted q ≡ n

abbrev pub AreCounted : {S : Type 0} → ℕ → ℕ → Turns S → Type 0
AreCounted n k t = (v : ℕ) (q : Report) → slice_get t.ended v ≡ Some false → slice_get t.reports v ≡ Some q → Counts n k v q

-- why a worker takes no more turns though it has not had all, where this fault is recorded
abbrev pub IsCause : Option Failure → Why → Type 0
IsCause f Why.TurnsDone = ⊥
IsCause f Why.Faulted = IsSome f
IsCause f Why.Stopped = IsSome f
IsCause f Why.Memory = Unit {0}

abbrev pub HaveCauses : {S : Type 0} → Turns S → Type 0
HaveCauses t = (w : ℕ) (q : Report) → slice_get t.ended w ≡ Some true → slice_get t.reports w ≡ Some q → IsCause t.board.failure q.why

-- in the round after n rounds, and after the turns of the first k workers, who takes none has had fewer than there were
pub record HasFewer (n k v : ℕ) (q : Report) : Type 0 where
  pub had : v < k → counted q < n + 1
  pub before : k ≤ v → counted q < n

abbrev pub HaveFewer : {S : Type 0} → ℕ → ℕ → Turns S → Type 0
HaveFewer n k t = (v : ℕ) (q : Report) → slice_get t.ended v ≡ Some true → slice_get t.reports v ≡ Some q → HasFewer n k v q

-- in the round after n rounds, and after the turns of the first k workers: who takes more turns has had all till now, and who takes none
-- has a cause, and has had fewer
pub record AreSettled {S : Type 0} (n k : ℕ) (t : Turns S) : Type 0 where
  pub going : AreGoing t
  pub taken : AreCounted n k t
  pub gone : HaveCauses t
  pub fewer : HaveFewer n k t
