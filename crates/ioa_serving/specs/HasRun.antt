-- What was read for a run, and what was run: the program's run, before anything is written.
use Rattle.std.specs.Prelude.{◌≡◌, ◌≤◌, ℕ, List, All, length, map}
use Rattle.ioa_value.specs.Actions.{Act, Name, act_of}
use Rattle.ioa_value.specs.Plain.{Val}
use Rattle.ioa_parts.specs.Nodes.{Node}
use Rattle.ioa_compile.specs.Subjects.{RunsAs, Subject}
use Rattle.ioa_compile.specs.Tables.{IsProgram, tabled}
use Rattle.ioa_coverage.specs.Covered.{IsOriginOf}
use Rattle.ioa_board.specs.ProgramRooms.{IsInput}
use Rattle.ioa_run.specs.Alone.{HasResumed, most_turns}
use Rattle.ioa_board.specs.Boards.{Standing}
use Rattle.ioa_board.specs.Histories.{GoesOn, since}
use Rattle.ioa_board.specs.Outcomes.{HaveEnded, IsLogOf}
use Rattle.ioa_board.specs.Reports.{AreTold}
use Rattle.ioa_run.specs.Tallies.{AddUp, own_names, tally_of}
use Rattle.ioa_system.specs.Logs.{Logged, log_end, logged}
use Rattle.ioa_serving.specs.declared.ready.Ready.{Ready}
use Rattle.ioa_serving.specs.declared.run.Ran.{Ran}
use Rattle.ioa_request.specs.declared.settings.Settings.{Settings}
use Rattle.ioa_serving.specs.Alone.{AreSources, IsExact, IsReady}

-- all was read, and the program does what this subject does, which a source declares, where there is one
pub record HasReady (holds : Name → List ℕ → Type 0) (s : Settings) (r : Ready) : Type 0 where
  pub subject : Subject
  pub ready : IsReady holds s subject (map act_of r.script.items) (logged r.log)
  pub runs : RunsAs r.program subject
  pub declares : IsOriginOf r.source subject
  pub program : IsProgram r.program
  pub words : AreSources holds s.words (length r.program.members) r.words

-- all was read, and the program was run as this subject: the log is that of a board, whose history begins with that of the log from which the run went
-- on, the reports tell of what is new in it and of all turns that its workers had, the tallies add up to them, and on one thread both are those of the subject's turns
pub record HasRun (holds : Name → List ℕ → Type 0) (s : Settings) (r : Ran) : Type 0 where
  pub subject : Subject
  pub script : List Act
  pub before : Logged
  pub ready : IsReady holds s subject script before
  pub runs : RunsAs r.program subject
  pub declares : IsOriginOf r.source subject
  pub turns : s.turns ≤ most_turns
  pub inputs : All (IsInput (tabled r.program)) script
  pub resumed : HasResumed r.program before
  pub board : Standing (List Val)
  pub states : List Node
  pub log : IsLogOf r.program board r.log.entries.items r.log.end states
  pub goes_on : GoesOn before.entries board.history
  pub told : AreTold (length r.program.members) script s.turns (since before.entries board.history) board.failure r.reports.items
  pub tallied : AddUp (since before.entries board.history) (map own_names r.program.members) r.reports.items (map tally_of r.tallies.items)
  pub began : r.before ≡ length before.entries
  pub inputs_are : map act_of r.script.items ≡ script
  pub ended : HaveEnded s.turns (log_end r.log.end) r.reports.items
  pub exact : IsExact holds s subject before script (logged r.log) r.reports.items
