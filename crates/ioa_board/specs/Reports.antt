-- Reports: what became of the turns of each worker of a run.
use Rattle.std.specs.Prelude.{◌≡◌, ◌≢◌, ◌↔◌, ◌+◌, ◌-◌, ◌^◌, ◌==◌, ℕ, Bool, cond, List, Option, Some, filter, length, min, slice_get, take}
use Rattle.std.specs.Option.{option_map}
use Rattle.ioa_value.specs.Actions.{Act}
use Rattle.ioa_board.specs.declared.report.Why.{Why}
use Rattle.ioa_board.specs.declared.report.Report.{Report}
use Rattle.ioa_board.specs.declared.verdict.Verdict.{Verdict}
use Rattle.ioa_board.specs.Boards.{Failure}
use Rattle.ioa_board.specs.Histories.{acts_of, count}
use Rattle.ioa_board.specs.declared.answer.Answer.{Answer}

-- no turn is taken yet
abbrev pub blank : Report
blank = record { committed = 0; idle = 0; stale = 0; why = Why.Stopped }

-- how many turns are counted
abbrev pub counted : Report → ℕ
counted r = r.committed + r.idle + r.stale

-- one more, where there is a greater number
abbrev pub one_more : ℕ → ℕ
one_more n = min (n + 1) (2 ^ 64 - 1)

-- who takes one more turn has not done with them
abbrev pub resumed : Why → Why
resumed Why.TurnsDone = Why.Stopped
resumed Why.Faulted = Why.Faulted
resumed Why.Stopped = Why.Stopped
resumed Why.Memory = Why.Memory

abbrev pub with_committed : Report → Report
with_committed r = record { committed = r.committed + 1; idle = r.idle; stale = r.stale; why = resumed r.why }

abbrev pub with_idle : Report → Report
with_idle r = record { committed = r.committed; idle = one_more r.idle; stale = r.stale; why = resumed r.why }

abbrev pub with_stale : Report → Report
with_stale r = record { committed = r.committed; idle = r.idle; stale = one_more r.stale; why = resumed r.why }

abbrev pub with_why : Why → Report → Report
with_why y r = record { committed = r.committed; idle = r.idle; stale = r.stale; why = y }

-- what a verdict changes in the report of the worker that committed
abbrev pub judged : Verdict → Report → Report
judged Verdict.Stopped r = r
judged Verdict.Stale r = with_stale r
judged (Verdict.Faulted c f) r = with_why Why.Faulted r
judged (Verdict.Committed n) r = with_committed r
judged (Verdict.Memory q) r = r

-- what the answer changes in the worker's report: a turn is idle whose action cannot be planned. Planned, NoPlan and Stale answer no attempt
abbrev pub told : Answer → Report → Report
told (Answer.Committed n) r = with_committed r
told (Answer.Faulted c f) r = with_why Why.Faulted r
told Answer.Stopped r = with_why Why.Stopped r
told Answer.NotAnAction r = with_idle r
told Answer.NotYours r = with_idle r
told Answer.NotEnabled r = with_idle r
told Answer.Planned r = with_idle r
told Answer.NoPlan r = with_idle r
told Answer.Stale r = with_stale r

-- why a worker left that says so: a fault is told by its commit alone, and turns are done only where all are counted
abbrev pub unless_done : Bool → Why → Why → Why
unless_done all old Why.TurnsDone = cond all Why.TurnsDone old
unless_done all old Why.Faulted = old
unless_done all old Why.Stopped = Why.Stopped
unless_done all old Why.Memory = Why.Memory

-- what is told of a fault stays
abbrev pub unless_faulted : Why → Why → Why
unless_faulted Why.TurnsDone y = y
unless_faulted Why.Faulted y = Why.Faulted
unless_faulted Why.Stopped y = y
unless_faulted Why.Memory y = y

-- the report of a worker that leaves for this reason, where each has so many turns
abbrev pub left : ℕ → Why → Report → Report
left turns y r = with_why (unless_faulted r.why (unless_done (counted r == turns) r.why y)) r

-- what an answer changes in a report, where each worker has so many turns: who is stopped leaves
abbrev pub told_in : ℕ → Answer → Report → Report
told_in turns Answer.Stopped r = left turns Why.Stopped r
told_in turns (Answer.Committed n) r = told (Answer.Committed n) r
told_in turns (Answer.Faulted c f) r = told (Answer.Faulted c f) r
told_in turns Answer.NotAnAction r = told Answer.NotAnAction r
told_in turns Answer.NotYours r = told Answer.NotYours r
told_in turns Answer.NotEnabled r = told Answer.NotEnabled r
told_in turns Answer.Planned r = told Answer.Planned r
told_in turns Answer.NoPlan r = told Answer.NoPlan r
told_in turns Answer.Stale r = told Answer.Stale r

-- one worker's report is changed so, and no other; a number past the workers' has none
pub record Changes (f : Report → Report) (w : ℕ) (rs rs' : List Report) : Type 0 where
  pub own : slice_get rs' w ≡ option_map f (slice_get rs w)
  pub others : (v : ℕ) → v ≢ w → slice_get rs' v ≡ slice_get rs v
  pub count : length rs' ≡ length rs

-- the actions that a worker performed, in order
abbrev pub performed_by : List (ℕ × Act) → ℕ → List Act
performed_by h w = acts_of (filter (λ e. e.0 == w) h)

-- the worker whose action faulted
abbrev pub faulter : Option Failure → Option ℕ
faulter f = option_map (λ r. r.entry.0) f

-- what reports say of a run with so many components, whose environment is to perform these inputs: there is a report for each component
-- and, last, for the environment. Each counts what its worker has performed, and that of the faulting worker alone says that it
-- faulted; the environment performs the inputs in order, and has no idle turn before all are performed; and who has done with its turns
-- has had as many as were given
pub record AreTold (components : ℕ) (inputs : List Act) (turns : ℕ) (h : List (ℕ × Act)) (f : Option Failure) (rs : List Report) : Type 0 where
  pub workers : length rs ≡ components + 1
  pub committed : (w : ℕ) (r : Report) → slice_get rs w ≡ Some r → r.committed ≡ count h w
  pub faulted : (w : ℕ) (r : Report) → slice_get rs w ≡ Some r → (r.why ≡ Why.Faulted) ↔ (faulter f ≡ Some w)
  pub script : performed_by h components ≡ take (count h components) inputs
  pub patient : (r : Report) → slice_get rs components ≡ Some r → r.idle ≢ 0 → performed_by h components ≡ inputs
  pub done : (w : ℕ) (r : Report) → slice_get rs w ≡ Some r → r.why ≡ Why.TurnsDone → counted r ≡ turns
