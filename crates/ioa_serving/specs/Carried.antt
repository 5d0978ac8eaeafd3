-- What is so of an object that is compiled of a source: it does as the source.
use Rattle.std.specs.Prelude.{◌≡◌, ◌↔◌, ℕ, Bool, List, Option, Err}
use Rattle.std.specs.Io.KnownBytes.{Appends}
use Rattle.ioa_value.specs.Actions.{Act, Name}
use Rattle.ioa_value.specs.Plain.{Val}
use Rattle.ioa_tree.specs.Hosts.{HostState, Hosted, hosts_of, host_starts}
use Rattle.ioa_tree.specs.Meaning.{Env}
use Rattle.ioa_tree.specs.Proposing.{Words}
use Rattle.ioa_tree.specs.Runs.{Ending}
use Rattle.ioa_compile.specs.Programs.{Prog}
use Rattle.ioa_compile.specs.Subjects.{Subject, its_components, its_starts, of_table}
use Rattle.ioa_compile.specs.Tables.{start_states, tabled}
use Rattle.ioa_system.specs.Logs.{Logged}
use Rattle.ioa_picture.specs.Selections.{Selection}
use Rattle.ioa_board.specs.declared.report.Report.{Report}
use Rattle.ioa_board.specs.Boards.{IsSound, Standing}
use Rattle.ioa_board.specs.Histories.{since}
use Rattle.ioa_run.specs.Subjects.{BoardsLike}
use Rattle.ioa_run.specs.Hosts.{Held}
use Rattle.ioa_board.specs.Resuming.{resumption}
use Rattle.ioa_run.specs.declared.tally.Tries.{Tries}
use Rattle.ioa_run.specs.Tallies.{AddUp}
use Rattle.ioa_board.specs.declared.run_err.RunErr.{RunErr}
use Rattle.ioa_serving.specs.Alone.{AreTurnsSince, IsRun, told_of, wants_of_run, written}
use Rattle.ioa_serving.specs.Compiling.{IsCompiled}
use Rattle.ioa_serving.specs.Headline.{Declares, IsFileOf, IsMonitoring}
use Rattle.ioa_serving.specs.ListLogs.{IsListLog}
use Rattle.ioa_serving.specs.LogLogs.{IsLogLog}
use Rattle.ioa_serving.specs.Objects.{IsLogReplayAs, IsReplayAs}
use Rattle.ioa_serving.specs.Pictures.{IsGraphed, IsLogChart}
use Rattle.ioa_serving.specs.Resuming.{IsResumable}
use Rattle.ioa_serving.specs.RunReports.{its_own_names}

-- what a replay of a list by the object writes, as text or as objects, a replay by the source's composition writes
abbrev pub ReplaysAsSource : Type 0
ReplaysAsSource = (json : Bool) (text object : List ℕ) (name of : Option Name) (bytes : List ℕ) (end : Ending) (before after : Option (List ℕ))
    → IsCompiled text name object → IsReplayAs json object of bytes end before after → IsReplayAs json text name bytes end before after

-- the same of a log
abbrev pub ReplaysLogsAsSource : Type 0
ReplaysLogsAsSource = (json : Bool) (text object : List ℕ) (name of : Option Name) (bytes : List ℕ) (end : Ending) (before after : Option (List ℕ))
    → IsCompiled text name object → IsLogReplayAs json object of bytes end before after → IsLogReplayAs json text name bytes end before after

-- the same of the log of a list's run
abbrev pub LogsListsAsSource : Type 0
LogsListsAsSource = (text object : List ℕ) (name of : Option Name) (bytes : List ℕ) (end : Ending) (before after : Option (List ℕ))
    → IsCompiled text name object → IsListLog object of bytes end before after → IsListLog text name bytes end before after

-- of a log that is written again
abbrev pub LogsLogsAsSource : Type 0
LogsLogsAsSource = (text object : List ℕ) (name of : Option Name) (bytes : List ℕ) (end : Ending) (before after : Option (List ℕ))
    → IsCompiled text name object → IsLogLog object of bytes end before after → IsLogLog text name bytes end before after

-- of the chart of a log, whatever of it is drawn
abbrev pub ChartsAsSource : Type 0
ChartsAsSource = (text object : List ℕ) (name of : Option Name) (selection : Selection) (bytes : List ℕ) (end : Ending) (before after : Option (List ℕ))
    → IsCompiled text name object → IsLogChart object of selection bytes end before after → IsLogChart text name selection bytes end before after

-- of a graph
abbrev pub GraphsAsSource : Type 0
GraphsAsSource = (text object : List ℕ) (name of : Option Name) (before after : Option (List ℕ))
    → IsCompiled text name object → IsGraphed object of before after → IsGraphed text name before after

-- and of a monitor's answer
abbrev pub MonitorsAsSource : Type 0
MonitorsAsSource = (json : Bool) (text object : List ℕ) (name of : Option Name) (bytes : List ℕ) (answer : Option Ending) (before after : Option (List ℕ))
    → IsCompiled text name object → IsMonitoring json object of bytes answer before after → IsMonitoring json text name bytes answer before after

-- ---- runs

-- a text declares the hosts of one composition of this name
abbrev pub OneComposition : Type 0
OneComposition = (text : List ℕ) (name : Option Name) (h k : Hosted) → Declares text name h → Declares text name k → h ≡ k

-- A history of the object's own table is one of the source's hosts, with the same workers and the same fault, and the slots hold the states to
-- which it leads them; and the other way.
abbrev pub HistoriesAsSource : Type 0
HistoriesAsSource = (text object : List ℕ) (name of : Option Name) (p : Prog) (h : Hosted) → IsCompiled text name object → IsFileOf object of (of_table p) → Declares text name h
    → ((b : Standing (List Val)) → IsSound (tabled p) (start_states p) b → (d : Standing (HostState Env)) × IsSound (hosts_of h) (host_starts h) d × BoardsLike (Held h p) d b)
    × ((d : Standing (HostState Env)) → IsSound (hosts_of h) (host_starts h) d → (b : Standing (List Val)) × IsSound (tabled p) (start_states p) b × BoardsLike (Held h p) d b)

-- a run of the subject that goes on from the first log has the other and these reports, to which tallies add up, and of which this is written and told
pub record ComesTo (s : Subject) (first : Logged) (script : List Act) (turns : ℕ) (log : Logged) (reports : List Report) (as_log told : Bool) (before after telling : Option (List ℕ)) (wants : List ℕ) : Type 0 where
  pub resumed : IsResumable s first
  pub run : IsRun s first.entries script turns log reports
  pub tallies : List (List Tries)
  pub tallied : AddUp (since first.entries run.history) (its_own_names s) reports tallies
  pub output : Appends before after (written s as_log log)
  pub tells : telling ≡ told_of s told reports (since first.entries run.history) tallies script
  pub wanting : wants ≡ wants_of_run s reports

-- so of what the file gives
abbrev pub IsRunOf : List ℕ → Option Name → Logged → List Act → ℕ → Logged → List Report → Bool → Bool → Option (List ℕ) → Option (List ℕ) → Option (List ℕ) → List ℕ → Type 0
IsRunOf text name first script turns log reports as_log told before after telling wants =
    (s : Subject) × IsFileOf text name s × ComesTo s first script turns log reports as_log told before after telling wants

-- What a run by the object may come to, a run by the source's composition may come to, and the other way, from whatever log they go on: the same log with
-- the same end, the same reports, and the same text of both, whatever the words and the schedule.
abbrev pub RunsAsSource : Type 0
RunsAsSource = (text object : List ℕ) (name of : Option Name) (p : Prog) (first : Logged) (script : List Act) (turns : ℕ) (log : Logged) (reports : List Report) (as_log told : Bool)
    (before after telling : Option (List ℕ)) (wants : List ℕ) → IsCompiled text name object → IsFileOf object of (of_table p)
    → IsRunOf object of first script turns log reports as_log told before after telling wants ↔ IsRunOf text name first script turns log reports as_log told before after telling wants

-- the log and the reports are those of turns of what the file gives, since the first log and by these words
abbrev pub AreTurnsOf : List ℕ → Option Name → Logged → List Words → List Act → ℕ → Logged → List Report → Type 0
AreTurnsOf text name first words script turns log reports = (s : Subject) × IsFileOf text name s × AreTurnsSince s first words script turns log reports

-- by the same words the turns of both are the same, from whatever log they go on: the same log and the same reports
abbrev pub TakesTurnsAsSource : Type 0
TakesTurnsAsSource = (text object : List ℕ) (name of : Option Name) (p : Prog) (first : Logged) (words : List Words) (script : List Act) (turns : ℕ) (log : Logged) (reports : List Report)
    → IsCompiled text name object → IsFileOf object of (of_table p)
    → AreTurnsOf object of first words script turns log reports ↔ AreTurnsOf text name first words script turns log reports

-- why what the file gives does not go on from the log
abbrev pub RefusesLog : List ℕ → Option Name → Logged → RunErr → Type 0
RefusesLog text name log e = (s : Subject) × IsFileOf text name s × (resumption (its_components s) (its_starts s) log ≡ Err e)

-- the object goes on from the logs from which its source does, and refuses the others alike
abbrev pub RefusesAsSource : Type 0
RefusesAsSource = (text object : List ℕ) (name of : Option Name) (p : Prog) (log : Logged) (e : RunErr)
    → IsCompiled text name object → IsFileOf object of (of_table p) → RefusesLog object of log e ↔ RefusesLog text name log e
