-- A specification that is handed actions one after another: what is kept of it.
use Rattle.std.specs.Prelude.{◌≡◌, ◌≤◌, ℕ, List, ◌++◌, length, Option, Some, None, option_map}
use Rattle.ioa_value.specs.Actions.{Act}
use Rattle.ioa_tree.specs.Components.{Component}
use Rattle.ioa_tree.specs.Runs.{Ending}
use Rattle.ioa_compile.specs.Programs.{Prog}
use Rattle.ioa_compile.specs.Tables.{start_states, tabled}
use Rattle.ioa_system.specs.Outcomes.{ending_of}
use Rattle.ioa_monitor.specs.declared.watch.Watch.{Watch}
use Rattle.ioa_monitor.specs.Monitoring.{monitored, monitored_from}

-- an answer that was given stays; without one these actions decide, of which the first has this index
abbrev pub or_from : {S : Type 0} → Option Ending → ℕ → List (Component S) → List Act → List S → Option Ending
or_from (Some end) n ps acts ss = Some end
or_from None n ps acts ss = monitored_from n ps acts ss

-- these actions came, and whatever comes more, what is kept tells the answer
pub record HasWatched (p : Prog) (acts : List Act) (w : Watch) : Type 0 where
  pub program : w.system.program ≡ p
  pub counted : w.count ≤ length acts
  pub told : (more : List Act) → monitored (tabled p) (acts ++ more) (start_states p) ≡ or_from (option_map ending_of w.answer) w.count (tabled p) more w.system.states
