-- A program as a specification that is handed a stream of actions.
use Rattle.std.specs.Prelude.{◌≡◌, List, Option, Some, None, option_map}
use Rattle.ioa_value.specs.Actions.{Name, Act}
use Rattle.ioa_value.specs.Plain.{Val}
use Rattle.ioa_tree.specs.Runs.{Ending}
use Rattle.ioa_compile.specs.Programs.{Prog}
use Rattle.ioa_compile.specs.Tables.{start_states, tabled}
use Rattle.ioa_system.specs.Outcomes.{ending_of}
use Rattle.ioa_watch.specs.declared.watcher.Watcher.{Watcher}
use Rattle.ioa_watch.specs.Names.{names_of, shown}
use Rattle.ioa_watch.specs.Watched.{Watching, hearing_all, starting, watched}

-- what is kept of the program where these actions came
abbrev pub heard_by : Prog → List Act → Watching (List Val)
heard_by p acts = hearing_all (names_of p.members) (tabled p) acts (starting (names_of p.members) (start_states p))

-- why it refuses the first of them that it does
abbrev pub refused_by : Prog → List Act → Option Ending
refused_by p acts = watched (names_of p.members) (tabled p) acts (start_states p)

-- what a watcher keeps
abbrev pub names_in : Watcher → List Name
names_in w = shown w.names.list.items

abbrev pub watching_of : Watcher → Watching (List Val)
watching_of w = record { states = w.system.states; heard = w.heard; counts = w.counts.items; others = w.others; refusal = option_map ending_of w.refusal }

-- it is the program's, and these actions came
pub record HasHeard (p : Prog) (acts : List Act) (w : Watcher) : Type 0 where
  pub program : w.system.program ≡ p
  pub names : names_in w ≡ names_of p.members
  pub kept : watching_of w ≡ heard_by p acts

-- a refusal that was none before
abbrev pub news : Option Ending → Option Ending → Option Ending
news (Some e) after = None
news None after = after
