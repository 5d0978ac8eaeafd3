-- What a run gives.
use Rattle.std.specs.Prelude.{◌≡◌, ◌<◌, ◌++◌, ◌∷◌, ℕ, List, [], All, Option, None, Some, length, map}
use Rattle.ioa_value.specs.Actions.{Act}
use Rattle.ioa_value.specs.Plain.{Val}
use Rattle.ioa_tree.specs.Runs.{Ending, done, not_an_action_at, not_enabled_at, fault_at, run}
use Rattle.ioa_compile.specs.Programs.{Prog}
use Rattle.ioa_compile.specs.Tables.{start_states, tabled}
use Rattle.ioa_system.specs.Logs.{log_end, log_entry}
use Rattle.ioa_system.specs.Systems.{values_of}
use Rattle.ioa_system.specs.declared.log.LogEnd.{LogEnd}
use Rattle.ioa_system.specs.declared.log.LogEntry.{LogEntry}
use Rattle.ioa_parts.specs.Nodes.{Node}
use Rattle.ioa_board.specs.Boards.{Failure, IsSound, Standing}
use Rattle.ioa_board.specs.Histories.{acts_of}
use Rattle.ioa_board.specs.Reports.{counted}
use Rattle.ioa_board.specs.declared.report.Report.{Report}
use Rattle.ioa_board.specs.declared.report.Why.{Why}

-- the history, and last the action that faulted
abbrev pub with_faulted : List (ℕ × Act) → Option Failure → List (ℕ × Act)
with_faulted h None = h
with_faulted h (Some r) = h ++ r.entry ∷ []

abbrev pub ending : List (ℕ × Act) → Option Failure → Ending
ending h None = done (length h)
ending h (Some r) = fault_at r.component r.fault (length h)

-- the log, its end and the states are the board's, whose history is legal and whose fault is its action's; and they are those of the run
-- over the logged actions
pub record IsLogOf (p : Prog) (b : Standing (List Val)) (log : List LogEntry) (end : LogEnd) (ns : List Node) : Type 0 where
  pub entries : map log_entry log ≡ with_faulted b.history b.failure
  pub ends : log_end end ≡ ending b.history b.failure
  pub states : values_of ns ≡ b.states
  pub sound : IsSound (tabled p) (start_states p) b
  pub runs : run (tabled p) (acts_of (with_faulted b.history b.failure)) (start_states p) ≡ record { performed = length b.history; states = b.states; ending = ending b.history b.failure }

-- the last of the log is an action that faulted
abbrev pub IsFault : Ending → Type 0
IsFault (done n) = ⊥
IsFault (not_an_action_at n) = ⊥
IsFault (not_enabled_at n) = ⊥
IsFault (fault_at c f i) = Unit {0}

-- why a worker takes no more turns, so many of which are counted: they are all that each has. Or they are fewer: its action faulted, and the
-- log ends by that fault; or it was stopped, and the log ends by the fault that stopped it, which is another's, since who faulted is told
-- so; or memory was refused to it
abbrev pub IsReason : ℕ → Ending → ℕ → Why → Type 0
IsReason turns end n Why.TurnsDone = n ≡ turns
IsReason turns end n Why.Faulted = (n < turns) × IsFault end
IsReason turns end n Why.Stopped = (n < turns) × IsFault end
IsReason turns end n Why.Memory = n < turns

-- the worker of this report has ended, where each has so many turns and the log ends so
abbrev pub HasEnded : ℕ → Ending → Report → Type 0
HasEnded turns end r = IsReason turns end (counted r) r.why

-- all workers have
abbrev pub HaveEnded : ℕ → Ending → List Report → Type 0
HaveEnded turns end rs = All (HasEnded turns end) rs
