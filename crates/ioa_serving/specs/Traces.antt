-- The texts of a run, by its program and its log.
use Rattle.std.specs.Prelude.{ℕ, ◌++◌, Bool, true, false, List, drop, length, map, take, Option, Some, None}
use Rattle.ioa_value.specs.Actions.{Act, act_of}
use Rattle.ioa_tree.specs.Runs.{trace}
use Rattle.ioa_compile.specs.Programs.{Prog}
use Rattle.ioa_compile.specs.Tables.{tabled}
use Rattle.ioa_system.specs.declared.log.LogEnd.{LogEnd}
use Rattle.ioa_system.specs.Logs.{Logged, actions_of, log_entry, logged}
use Rattle.ioa_log.specs.LogTexts.{log_text}
use Rattle.ioa_log.specs.Replays.{replay_text}
use Rattle.ioa_run.specs.Tallies.{own_names, tally_of}
use Rattle.ioa_serving.specs.declared.run.Ran.{Ran}
use Rattle.ioa_serving.specs.RunReports.{inputs_left, left_text, reports_text, tallies_text}

-- how many actions of a log that ends so are performed
abbrev pub performed : LogEnd → ℕ
performed (LogEnd.Done n) = n
performed (LogEnd.Fault c f i) = i

-- the external ones among the first n of the log's actions, and its end
abbrev pub traced_text : Prog → Logged → ℕ → List ℕ
traced_text p log n = replay_text p.types (trace p.hidden (tabled p) (actions_of log) n) log.ending

-- the log's text, or the run's
abbrev pub table_text : Prog → Bool → Logged → ℕ → List ℕ
table_text p true log n = log_text p.types log
table_text p false log n = traced_text p log n

-- so of what was run
abbrev pub ran_text : Bool → Ran → List ℕ
ran_text as_log r = table_text r.program as_log (logged r.log) (performed r.log.end)

-- what is new in its history: what is performed, behind so many entries from which it went on
abbrev pub new_in : Ran → List (ℕ × Act)
new_in r = drop r.before (take (performed r.log.end) (map log_entry r.log.entries.items))

-- the reports by the names of the program's components, the tallies by those of their own entries too, and the inputs that are left
abbrev pub told_text : Ran → List ℕ
told_text r =
    let names = map (λ m. m.name) r.program.members in
    reports_text names r.reports.items
    ++ (tallies_text (new_in r) 0 names (map own_names r.program.members) (map tally_of r.tallies.items) ++ left_text r.program.types (inputs_left (length names) r.reports.items (map act_of r.script.items)))

-- so where they are to be told
abbrev pub table_told : Bool → Ran → Option (List ℕ)
table_told true r = Some (told_text r)
table_told false r = None
