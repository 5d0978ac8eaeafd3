-- What a program refuses of a stream, beside what a monitor by it does not accept.
use Rattle.std.specs.Prelude.{◌≡◌, true, List, All}
use Rattle.std.specs.List.{list_any}
use Rattle.ioa_value.specs.Actions.{Act}
use Rattle.ioa_value.specs.Table.{contains}
use Rattle.ioa_tree.specs.Components.{has}
use Rattle.ioa_compile.specs.Programs.{Prog}
use Rattle.ioa_compile.specs.Tables.{start_states, tabled}
use Rattle.ioa_monitor.specs.Monitoring.{monitored}
use Rattle.ioa_watch.specs.Names.{names_of}
use Rattle.ioa_watch.specs.Watchers.{refused_by}

-- each of these that has a name of the program's is one of its actions
abbrev pub AreItsOwn : Prog → List Act → Type 0
AreItsOwn p acts = All (λ a. contains (names_of p.members) a.name ≡ true → list_any (has a) (tabled p) ≡ true) acts

-- then both find the same
abbrev pub RefusesAsMonitor : Prog → List Act → Type 0
RefusesAsMonitor p acts = AreItsOwn p acts → refused_by p acts ≡ monitored (tabled p) acts (start_states p)
