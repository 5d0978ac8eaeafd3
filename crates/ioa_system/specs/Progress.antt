-- A run whose actions come one by one.
use Rattle.std.specs.Prelude.{◌≡◌, ◌<◌, ◌-◌, ◌^◌, ℕ, List, Option, Some, None, refl}
use Rattle.std.specs.Coded.{Coded, code_by, coded×, coded_list}
use Rattle.ioa_value.specs.Actions.{Act}
use Rattle.ioa_value.specs.Plain.{Val}
use Rattle.ioa_value.specs.Coded.{coded_vals}
use Rattle.ioa_tree.specs.Runs.{Reached, run, trace}
use Rattle.ioa_compile.specs.Programs.{Prog}
use Rattle.ioa_compile.specs.Coded.{coded_prog}
use Rattle.ioa_compile.specs.Tables.{tabled, start_states}
use Rattle.ioa_system.specs.declared.outcomes.End.{End}
use Rattle.ioa_system.specs.contracts.outcomes.End as ends
use Rattle.ioa_system.specs.Outcomes.{ending_of, performed_by}
use Rattle.ioa_system.specs.Logs.{worker}

-- the program, the states that stand, and the end as it would be with no further action
pub record Progress : Type 0 where
  pub program : Prog
  pub states : List (List Val)
  pub end : End

abbrev pub coded_progress : Coded Progress
coded_progress =
    code_by (Prog × (List (List Val) × End)) (coded× coded_prog (coded× (coded_list coded_vals) ends.the_row.coded)) (λ r. (r.program, (r.states, r.end))) (λ p. record { program = p.0; states = p.1.0; end = p.1.1 }) (λ _. refl)

abbrev pub reached_by : Progress → Reached (List Val)
reached_by r = record { performed = performed_by r.end; states = r.states; ending = ending_of r.end }

-- the run of the program over these actions, and its trace
pub record IsRunOver (p : Prog) (acts traced : List Act) (r : Progress) : Type 0 where
  pub program : r.program ≡ p
  pub reached : reached_by r ≡ run (tabled p) acts (start_states p)
  pub trace : traced ≡ trace p.hidden (tabled p) acts (performed_by r.end)

-- a number of 64 bits counts one action more
abbrev pub CountsOneMore : End → Type 0
CountsOneMore end = performed_by end < 2 ^ 64 - 1

-- the worker of the next action, where the run goes on
abbrev pub worker_after : End → ℕ → Option ℕ
worker_after (End.Done n) w = Some w
worker_after (End.NotAnAction i) w = None
worker_after (End.NotEnabled i) w = None
worker_after (End.Fault c f i) w = None

abbrev pub next_worker : Progress → Act → Option ℕ
next_worker r a = worker_after r.end (worker (tabled r.program) a)
