-- The schedule machine of a program.
use Rattle.std.specs.Prelude.{◌≡◌, ◌+◌, ℕ, List, Option, Some, Result, Ok, Err, length, map, refl, slice_get}
use Rattle.std.specs.Coded.{Coded, code_by, coded×, coded_list, coded_option}
use Rattle.std.specs.Option.{option_map}
use Rattle.ioa_value.specs.Actions.{Act, act_of}
use Rattle.ioa_value.specs.Plain.{Val}
use Rattle.ioa_compile.specs.Programs.{Prog}
use Rattle.ioa_compile.specs.Coded.{coded_prog}
use Rattle.ioa_compile.specs.Tables.{start_states, tabled}
use Rattle.ioa_board.specs.declared.answer.Answer.{Answer}
use Rattle.ioa_board.specs.declared.verdict.Verdict.{Verdict}
use Rattle.ioa_run.specs.declared.event.Event.{Event}
use Rattle.ioa_board.specs.declared.planned.Planned.{Planned}
use Rattle.ioa_board.specs.Planning.{IsOf, Makes, answer_of, intent_of, plan_in}
use Rattle.ioa_board.specs.ProgramBoards.{ProgramBoard}
use Rattle.ioa_board.specs.ProgramPlans.{ProgramPlan}
use Rattle.ioa_board.specs.Boards.{Intent, now_of, intent, Standing}
use Rattle.ioa_run.specs.Schedules as machine
use Rattle.ioa_run.specs.Schedules.{Answers, Plays, Schedule, start_schedule, with_plan}
use Rattle.ioa_board.specs.Coded.{coded_intent, coded_standing}

pub record ScheduledProgram : Type 0 where
  pub program : Prog
  pub schedule : Schedule (List Val)

abbrev pub coded_schedule : Coded (Schedule (List Val))
coded_schedule =
    code_by (Standing (List Val) × List (Option (Intent (List Val)))) (coded× coded_standing (coded_list (coded_option coded_intent))) (λ s. (s.board, s.plans))
    (λ p. record { board = p.0; plans = p.1 }) (λ _. refl)

abbrev pub coded_scheduled_program : Coded ScheduledProgram
coded_scheduled_program =
    code_by (Prog × Schedule (List Val)) (coded× coded_prog coded_schedule) (λ s. (s.program, s.schedule)) (λ p. record { program = p.0; schedule = p.1 }) (λ _. refl)

-- the board as it is now
abbrev pub board_now : ScheduledProgram → ProgramBoard
board_now s = record { program = s.program; board = s.schedule.board }

abbrev pub start_program : Prog → ScheduledProgram
start_program p = record { program = p; schedule = start_schedule (start_states p) }

-- an event without the memory that holds it
abbrev pub event_of : Event → machine.Event
event_of (Event.Copy w a) = machine.copy w (act_of a)
event_of (Event.Commit w) = machine.commit w

abbrev pub intents : List (Option ProgramPlan) → List (Option (Intent (List Val)))
intents ps = map (option_map (λ p. p.intent)) ps

-- there is a place for each worker's plan, and a plan in it is that worker's
pub record ArePlans (p : Prog) (plans : List (Option ProgramPlan)) : Type 0 where
  pub count : length plans ≡ length p.members + 1
  pub own : (w : ℕ) (q : ProgramPlan) → slice_get plans w ≡ Some (Some q) → IsOf p w q

-- the answer and the plan that the worker then has
abbrev pub Parts : Planned → Answer → Option ProgramPlan → Type 0
Parts r a q = (a ≡ answer_of r) × (q ≡ plan_in r)

-- the verdict's answer, or the plan that it gives back
abbrev pub settled_of : Verdict → Result Answer ProgramPlan
settled_of Verdict.Stopped = Ok Answer.Stopped
settled_of Verdict.Stale = Ok Answer.Stale
settled_of (Verdict.Faulted c f) = Ok (Answer.Faulted c f)
settled_of (Verdict.Committed n) = Ok (Answer.Committed n)
settled_of (Verdict.Memory p) = Err p

abbrev pub Settles : Verdict → Result Answer ProgramPlan → Type 0
Settles v r = r ≡ settled_of v

-- the machine's answers to these events, from the start, and the schedule to which they lead
pub record IsPlay (p : Prog) (es : List machine.Event) (s : ScheduledProgram) (as' : List Answer) : Type 0 where
  pub program : s.program ≡ p
  pub plays : Plays (tabled p) es (start_schedule (start_states p)) as' s.schedule

-- ---- law

-- what planning an action by a copy of its participants' states as they are now answers a worker is what the machine answers to its copy, and
-- the worker then has that plan or none
abbrev pub CopyAnswers : Type 0
CopyAnswers =
    (p : Prog) (w : ℕ) (a : Act) (s : Schedule (List Val)) (r : Planned) → length s.board.states ≡ length p.members → Makes p w a (now_of (tabled p) a s.board.states) r
    → Answers (tabled p) (machine.copy w a) s (answer_of r) (with_plan s w (intent_of r))
