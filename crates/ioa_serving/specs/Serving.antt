-- What a request comes to, from what files may hold to the bytes that are written.
use Rattle.std.specs.Prelude.{◌≡◌, ℕ, ◌⊎◌, List, [], map, Option, None, Some, IfSome, is_some, true, false}
use Rattle.std.specs.Option.{option_copied, option_map}
use Rattle.std.specs.String.{string_bytes}
use Rattle.ioa_tree.specs.Runs.{Ending}
use Rattle.ioa_device.specs.Devices.{Change, Failed, Untouched, Wrote}
use Rattle.ioa_links.specs.Library.{library_text}
use Rattle.ioa_board.specs.declared.run_err.RunErr.{RunErr}
use Rattle.ioa_serving.specs.declared.failure.Failure.{Failure}
use Rattle.ioa_request.specs.declared.request.Request.{Request}
use Rattle.ioa_request.specs.Pasted.{texts}
use Rattle.ioa_serving.specs.declared.run.Ran.{Ran}
use Rattle.ioa_serving.specs.declared.served.Served.{Served}
use Rattle.ioa_serving.specs.declared.store.StoreErr.{StoreErr}
use Rattle.ioa_serving.specs.declared.status.Status.{Status}
use Rattle.ioa_serving.specs.Checks.{IsCheck, IsCheckFailure, IsUnchecked}
use Rattle.ioa_serving.specs.Compiling.{IsMade, IsUnmade}
use Rattle.ioa_serving.specs.Coverage.{BeginsCoverageOf, IsCoverage, IsCoverageFailure}
use Rattle.ioa_serving.specs.Worlds.{Files}
use Rattle.ioa_serving.specs.Dumps.{IsDumped, IsUndumped}
use Rattle.ioa_serving.specs.Explaining.{IsExplained, IsUnexplained}
use Rattle.ioa_serving.specs.Headline.{IsMonitoring, IsLogStatesReplay, IsStatesReplay}
use Rattle.ioa_serving.specs.Libraries.{IsUnlisted}
use Rattle.ioa_serving.specs.ListLogs.{BeginsListLogOf, IsListLog}
use Rattle.ioa_serving.specs.LogLogs.{BeginsLogLogOf, IsLogLog}
use Rattle.ioa_serving.specs.Logs.{Found}
use Rattle.ioa_serving.specs.Objects.{BeginsFindingAs, BeginsLogReplayAs, BeginsReplayAs, IsInvariantReplayAs, IsLogReplayAs, IsReplayAs}
use Rattle.ioa_serving.specs.RunReports.{wants_text}
use Rattle.ioa_serving.specs.Pictures.{BeginsChartOf, IsGraphed, IsLogChart, IsUngraphed, selected}
use Rattle.ioa_serving.specs.Alone.{IsRunServed, IsRunUnserved}
use Rattle.ioa_serving.specs.Seeds.{IsSeedsServed, IsSeedsUnserved}
use Rattle.ioa_serving.specs.Failing.{IsFailure, IsInvariantFailure, IsLogReplayFailure, IsMonitorFailure, IsStatesFailure, IsUnwritten, BeginsLogStatesOf, BeginsMonitorOf, BeginsStatesOf}
use Rattle.ioa_serving.specs.Statuses.{answer_status, ending_status, found_status}
use Rattle.ioa_serving.specs.Strict.{BeginsStrictOf, IsStrictMonitoring, StrictAnswer, strict_status}
use Rattle.ioa_serving.specs.Watching.{IsWatchFailure, IsWatchServed}

-- what is left to be told
abbrev pub reports_of : Served → Option (List ℕ)
reports_of s = option_map string_bytes s.reports

-- and of the workers to which memory was refused, where there was a run
abbrev pub wants_of : Option Ran → List ℕ
wants_of None = []
wants_of (Some r) = wants_text (map (λ m. m.name) r.program.members) r.reports.items

-- why nothing is served of a file that was not read
abbrev pub failure_of : StoreErr → Failure
failure_of StoreErr.Io = Failure.Io
failure_of StoreErr.OutOfMemory = Failure.OutOfMemory

-- why nothing is run
abbrev pub run_failure : RunErr → Failure
run_failure RunErr.TooManyTurns = Failure.TooManyTurns
run_failure (RunErr.BadInput i) = Failure.BadInput i
run_failure RunErr.Threads = Failure.Threads
run_failure (RunErr.BadLog i) = Failure.BadLog i
run_failure RunErr.EndedByFault = Failure.EndedByFault
run_failure RunErr.OutOfMemory = Failure.OutOfMemory

-- the file may hold a text such that the list or the log was replayed, in either form, or monitored, or the log of the list's run was written, or the log again, in the
-- composition that is asked for, the last one where none is, with or without the states in which it ends; or the log was monitored strictly; or the stream was watched by those that are asked for; or the log or the composition was drawn; or that passed the check; or its object was put
-- in a file; or it was dumped; or a composition was run, or so it was by many seeds, and a log of theirs was kept; or the topic was explained; or the library's text was written. Reports of a run are left to be told, and the
-- workers to which memory was refused; or what the specifications of a watch counted; or how often each entry was performed, and each arm and body taken
abbrev pub IsServed : Files → Request → Change → Change → Option (List ℕ) → List ℕ → Status → Type 0
IsServed f (Request.Replay file composition json) input output told wants status =
    (text : List ℕ) × f.holds file.now text
    × ((end : Ending) × IfSome input.before.bytes (λ xs. IsReplayAs json text (option_copied composition) xs end output.before.bytes output.after.bytes) × (status ≡ ending_status end)) × (told ≡ None)
IsServed f (Request.ReplayStates file composition shown) input output told wants status =
    (text : List ℕ) × f.holds file.now text
    × ((end : Ending) × IfSome input.before.bytes (λ xs. IsStatesReplay text (option_copied composition) shown xs end output.before.bytes output.after.bytes) × (status ≡ ending_status end)) × (told ≡ None)
IsServed f (Request.ReplayLog file composition json) input output told wants status =
    (text : List ℕ) × f.holds file.now text
    × ((end : Ending) × IfSome input.before.bytes (λ xs. IsLogReplayAs json text (option_copied composition) xs end output.before.bytes output.after.bytes) × (status ≡ ending_status end)) × (told ≡ None)
IsServed f (Request.ReplayLogStates file composition shown) input output told wants status =
    (text : List ℕ) × f.holds file.now text
    × ((end : Ending) × IfSome input.before.bytes (λ xs. IsLogStatesReplay text (option_copied composition) shown xs end output.before.bytes output.after.bytes) × (status ≡ ending_status end)) × (told ≡ None)
IsServed f (Request.ReplayInvariants file composition json) input output told wants status =
    (text : List ℕ) × f.holds file.now text
    × ((found : Found) × IfSome input.before.bytes (λ xs. IsInvariantReplayAs json text (option_copied composition) xs found output.before.bytes output.after.bytes) × (status ≡ found_status found)) × (told ≡ None)
IsServed f (Request.ReplayCoverage file composition log json) input output told wants status =
    (text : List ℕ) × f.holds file.now text
    × ((end : Ending) × (lines : List ℕ) × IfSome input.before.bytes (λ xs. IsCoverage log json text (option_copied composition) xs end lines output.before.bytes output.after.bytes)
    × (told ≡ Some lines) × (status ≡ ending_status end))
IsServed f (Request.Log file composition) input output told wants status =
    (text : List ℕ) × f.holds file.now text
    × ((end : Ending) × IfSome input.before.bytes (λ xs. IsListLog text (option_copied composition) xs end output.before.bytes output.after.bytes) × (status ≡ ending_status end)) × (told ≡ None)
IsServed f (Request.LogByLog file composition) input output told wants status =
    (text : List ℕ) × f.holds file.now text
    × ((end : Ending) × IfSome input.before.bytes (λ xs. IsLogLog text (option_copied composition) xs end output.before.bytes output.after.bytes) × (status ≡ ending_status end)) × (told ≡ None)
IsServed f (Request.Monitor file composition) input output told wants status =
    (text : List ℕ) × f.holds file.now text
    × ((answer : Option Ending) × IfSome input.before.bytes (λ xs. IsMonitoring false text (option_copied composition) xs answer output.before.bytes output.after.bytes) × (status ≡ answer_status answer)) × (told ≡ None)
IsServed f (Request.MonitorJson file composition) input output told wants status =
    (text : List ℕ) × f.holds file.now text
    × ((answer : Option Ending) × IfSome input.before.bytes (λ xs. IsMonitoring true text (option_copied composition) xs answer output.before.bytes output.after.bytes) × (status ≡ answer_status answer)) × (told ≡ None)
IsServed f (Request.StrictMonitor file composition json) input output told wants status =
    (text : List ℕ) × f.holds file.now text
    × ((answer : StrictAnswer) × IfSome input.before.bytes (λ xs. IsStrictMonitoring json text (option_copied composition) xs answer output.before.bytes output.after.bytes) × (status ≡ strict_status answer)) × (told ≡ None)
IsServed f (Request.Watch file compositions first counts json) input output told wants status =
    (text : List ℕ) × f.holds file.now text
    × IsWatchServed text (texts compositions.now) first counts json input.before.bytes output.before.bytes output.after.bytes told status
IsServed f (Request.Chart file composition selection) input output told wants status =
    (text : List ℕ) × f.holds file.now text
    × ((end : Ending) × IfSome input.before.bytes (λ xs. IsLogChart text (option_copied composition) (selected selection) xs end output.before.bytes output.after.bytes) × (status ≡ ending_status end)) × (told ≡ None)
IsServed f (Request.Graph file composition) input output told wants status =
    ((text : List ℕ) × f.holds file.now text × IsGraphed text (option_copied composition) output.before.bytes output.after.bytes) × (status ≡ Status.Done) × (told ≡ None)
IsServed f (Request.Run settings) input output told wants status = IsRunServed f.holds settings output.before.bytes output.after.bytes told wants status
IsServed f (Request.Seeds seeds) input output told wants status = IsSeedsServed f seeds output.before.bytes output.after.bytes told status
IsServed f (Request.Check file compositions) input output told wants status =
    ((text : List ℕ) × f.holds file.now text × IsCheck text compositions output.before.bytes output.after.bytes) × (status ≡ Status.Done) × (told ≡ None)
IsServed f (Request.Compile file out composition) input output told wants status =
    IsMade f file.now out.now (option_copied composition) output × (status ≡ Status.Done) × (told ≡ None)
IsServed f (Request.Dump file) input output told wants status =
    ((object : List ℕ) × f.holds file.now object × IsDumped object output.before.bytes output.after.bytes) × (status ≡ Status.Done) × (told ≡ None)
IsServed f (Request.Explain topic) input output told wants status = IsExplained topic output.before.bytes output.after.bytes × (status ≡ Status.Done) × (told ≡ None)
IsServed f Request.Library input output told wants status = Wrote output library_text × (status ≡ Status.Done) × (told ≡ None)

-- a load of the file may fail, or memory is short, and nothing was written
abbrev pub IsUnread : Type 0 → Change → Failure → Type 0
IsUnread lacks output e = (((e ≡ Failure.Io) × lacks) ⊎ (e ≡ Failure.OutOfMemory)) × Untouched output

-- The file is not read, or it may hold a text with which the replay, the log of a list, the monitor, the watch, the chart, the graph, the check or the dump fails so; or no object is
-- made; or nothing is run, or the run's text, or that of runs by many seeds, is not all written; or the topic is not explained; or the library's text is not written. The reader of standard input and the writer failed
-- where these say so.
abbrev pub IsUnserved : Files → Request → Change → Change → List ℕ → Failure → Type 0
IsUnserved f (Request.Replay file composition json) input output wants e =
    IsUnread (f.lacks file.now) output e
    ⊎ ((text : List ℕ) × f.holds file.now text × IsFailure text (option_copied composition) input.before.bytes (Failed input ⊎ Failed output) e
    × IsUnwritten (BeginsReplayAs json text (option_copied composition) input.before.bytes) output.before.bytes output.after.bytes e)
IsUnserved f (Request.ReplayStates file composition shown) input output wants e =
    IsUnread (f.lacks file.now) output e
    ⊎ ((text : List ℕ) × f.holds file.now text × IsStatesFailure text (option_copied composition) input.before.bytes (Failed input ⊎ Failed output) e
    × IsUnwritten (BeginsStatesOf text (option_copied composition) shown input.before.bytes) output.before.bytes output.after.bytes e)
IsUnserved f (Request.ReplayLog file composition json) input output wants e =
    IsUnread (f.lacks file.now) output e
    ⊎ ((text : List ℕ) × f.holds file.now text × IsLogReplayFailure text (option_copied composition) input.before.bytes (Failed input ⊎ Failed output) e
    × IsUnwritten (BeginsLogReplayAs json text (option_copied composition) input.before.bytes) output.before.bytes output.after.bytes e)
IsUnserved f (Request.ReplayLogStates file composition shown) input output wants e =
    IsUnread (f.lacks file.now) output e
    ⊎ ((text : List ℕ) × f.holds file.now text × IsInvariantFailure text (option_copied composition) input.before.bytes (Failed input ⊎ Failed output) e
    × IsUnwritten (BeginsLogStatesOf text (option_copied composition) shown input.before.bytes) output.before.bytes output.after.bytes e)
IsUnserved f (Request.ReplayInvariants file composition json) input output wants e =
    IsUnread (f.lacks file.now) output e
    ⊎ ((text : List ℕ) × f.holds file.now text × IsInvariantFailure text (option_copied composition) input.before.bytes (Failed input ⊎ Failed output) e
    × IsUnwritten (BeginsFindingAs json text (option_copied composition) input.before.bytes) output.before.bytes output.after.bytes e)
IsUnserved f (Request.ReplayCoverage file composition log json) input output wants e =
    IsUnread (f.lacks file.now) output e
    ⊎ ((text : List ℕ) × f.holds file.now text × IsCoverageFailure log text (option_copied composition) input.before.bytes (Failed input ⊎ Failed output) e
    × IsUnwritten (BeginsCoverageOf log json text (option_copied composition) input.before.bytes) output.before.bytes output.after.bytes e)
IsUnserved f (Request.Log file composition) input output wants e =
    IsUnread (f.lacks file.now) output e
    ⊎ ((text : List ℕ) × f.holds file.now text × IsFailure text (option_copied composition) input.before.bytes (Failed input ⊎ Failed output) e
    × IsUnwritten (BeginsListLogOf text (option_copied composition) input.before.bytes) output.before.bytes output.after.bytes e)
IsUnserved f (Request.LogByLog file composition) input output wants e =
    IsUnread (f.lacks file.now) output e
    ⊎ ((text : List ℕ) × f.holds file.now text × IsLogReplayFailure text (option_copied composition) input.before.bytes (Failed input ⊎ Failed output) e
    × IsUnwritten (BeginsLogLogOf text (option_copied composition) input.before.bytes) output.before.bytes output.after.bytes e)
IsUnserved f (Request.Monitor file composition) input output wants e =
    IsUnread (f.lacks file.now) output e
    ⊎ ((text : List ℕ) × f.holds file.now text × IsMonitorFailure text (option_copied composition) input.before.bytes (Failed input ⊎ Failed output) e
    × IsUnwritten (BeginsMonitorOf false text (option_copied composition) input.before.bytes) output.before.bytes output.after.bytes e)
IsUnserved f (Request.MonitorJson file composition) input output wants e =
    IsUnread (f.lacks file.now) output e
    ⊎ ((text : List ℕ) × f.holds file.now text × IsMonitorFailure text (option_copied composition) input.before.bytes (Failed input ⊎ Failed output) e
    × IsUnwritten (BeginsMonitorOf true text (option_copied composition) input.before.bytes) output.before.bytes output.after.bytes e)
IsUnserved f (Request.StrictMonitor file composition json) input output wants e =
    IsUnread (f.lacks file.now) output e
    ⊎ ((text : List ℕ) × f.holds file.now text × IsMonitorFailure text (option_copied composition) input.before.bytes (Failed input ⊎ Failed output) e
    × IsUnwritten (BeginsStrictOf json text (option_copied composition) input.before.bytes) output.before.bytes output.after.bytes e)
IsUnserved f (Request.Watch file compositions first counts json) input output wants e =
    IsUnread (f.lacks file.now) output e
    ⊎ ((text : List ℕ) × f.holds file.now text
    × IsWatchFailure text (texts compositions.now) first json input.before.bytes (Failed input ⊎ Failed output) output.before.bytes output.after.bytes e)
IsUnserved f (Request.Chart file composition selection) input output wants e =
    IsUnread (f.lacks file.now) output e
    ⊎ ((text : List ℕ) × f.holds file.now text × IsLogReplayFailure text (option_copied composition) input.before.bytes (Failed input ⊎ Failed output) e
    × IsUnwritten (BeginsChartOf text (option_copied composition) (selected selection) input.before.bytes) output.before.bytes output.after.bytes e)
IsUnserved f (Request.Graph file composition) input output wants e =
    IsUnread (f.lacks file.now) output e
    ⊎ ((text : List ℕ) × f.holds file.now text × IsUngraphed text (option_copied composition) (Failed output) output.before.bytes output.after.bytes e)
IsUnserved f (Request.Run settings) input output wants e =
    IsRunUnserved f.holds f.lacks settings (Failed output) output.before.bytes output.after.bytes wants e
IsUnserved f (Request.Seeds seeds) input output wants e = IsSeedsUnserved f seeds (Failed output) output.before.bytes output.after.bytes e
IsUnserved f (Request.Check file compositions) input output wants e =
    IsUnread (f.lacks file.now) output e
    ⊎ ((text : List ℕ) × f.holds file.now text × IsCheckFailure text compositions (Failed output) e × IsUnchecked output.before.bytes output.after.bytes e)
IsUnserved f (Request.Compile file out composition) input output wants e =
    IsUnmade f file.now out.now (option_copied composition) output e
IsUnserved f (Request.Dump file) input output wants e =
    IsUnread (f.lacks file.now) output e ⊎ ((object : List ℕ) × f.holds file.now object × IsUndumped object (Failed output) output.before.bytes output.after.bytes e)
IsUnserved f (Request.Explain topic) input output wants e = IsUnexplained topic (Failed output) output.before.bytes output.after.bytes e
IsUnserved f Request.Library input output wants e = IsUnlisted (Failed output) output.before.bytes output.after.bytes e

-- a list, a log or a stream is to be read
abbrev pub IsReading : Request → Type 0
IsReading (Request.Replay file composition json) = Unit {0}
IsReading (Request.ReplayStates file composition shown) = Unit {0}
IsReading (Request.ReplayLog file composition json) = Unit {0}
IsReading (Request.ReplayLogStates file composition shown) = Unit {0}
IsReading (Request.ReplayInvariants file composition json) = Unit {0}
IsReading (Request.ReplayCoverage file composition log json) = Unit {0}
IsReading (Request.Log file composition) = Unit {0}
IsReading (Request.LogByLog file composition) = Unit {0}
IsReading (Request.Monitor file composition) = Unit {0}
IsReading (Request.MonitorJson file composition) = Unit {0}
IsReading (Request.StrictMonitor file composition json) = Unit {0}
IsReading (Request.Watch file compositions first counts json) = Unit {0}
IsReading (Request.Chart file composition selection) = Unit {0}
IsReading (Request.Graph file composition) = ⊥
IsReading (Request.Run settings) = ⊥
IsReading (Request.Seeds seeds) = ⊥
IsReading (Request.Check file compositions) = ⊥
IsReading (Request.Compile file out composition) = ⊥
IsReading (Request.Dump file) = ⊥
IsReading (Request.Explain topic) = ⊥
IsReading Request.Library = ⊥

-- there is to be a run
abbrev pub IsRunning : Request → Type 0
IsRunning (Request.Replay file composition json) = ⊥
IsRunning (Request.ReplayStates file composition shown) = ⊥
IsRunning (Request.ReplayLog file composition json) = ⊥
IsRunning (Request.ReplayLogStates file composition shown) = ⊥
IsRunning (Request.ReplayInvariants file composition json) = ⊥
IsRunning (Request.ReplayCoverage file composition log json) = ⊥
IsRunning (Request.Log file composition) = ⊥
IsRunning (Request.LogByLog file composition) = ⊥
IsRunning (Request.Monitor file composition) = ⊥
IsRunning (Request.MonitorJson file composition) = ⊥
IsRunning (Request.StrictMonitor file composition json) = ⊥
IsRunning (Request.Watch file compositions first counts json) = ⊥
IsRunning (Request.Chart file composition selection) = ⊥
IsRunning (Request.Graph file composition) = ⊥
IsRunning (Request.Run settings) = Unit {0}
IsRunning (Request.Seeds seeds) = ⊥
IsRunning (Request.Check file compositions) = ⊥
IsRunning (Request.Compile file out composition) = ⊥
IsRunning (Request.Dump file) = ⊥
IsRunning (Request.Explain topic) = ⊥
IsRunning Request.Library = ⊥

-- a file is to be written
abbrev pub IsSaving : Request → Type 0
IsSaving (Request.Replay file composition json) = ⊥
IsSaving (Request.ReplayStates file composition shown) = ⊥
IsSaving (Request.ReplayLog file composition json) = ⊥
IsSaving (Request.ReplayLogStates file composition shown) = ⊥
IsSaving (Request.ReplayInvariants file composition json) = ⊥
IsSaving (Request.ReplayCoverage file composition log json) = ⊥
IsSaving (Request.Log file composition) = ⊥
IsSaving (Request.LogByLog file composition) = ⊥
IsSaving (Request.Monitor file composition) = ⊥
IsSaving (Request.MonitorJson file composition) = ⊥
IsSaving (Request.StrictMonitor file composition json) = ⊥
IsSaving (Request.Watch file compositions first counts json) = ⊥
IsSaving (Request.Chart file composition selection) = ⊥
IsSaving (Request.Graph file composition) = ⊥
IsSaving (Request.Run settings) = ⊥
IsSaving (Request.Seeds seeds) = is_some seeds.keep ≡ true
IsSaving (Request.Check file compositions) = ⊥
IsSaving (Request.Compile file out composition) = Unit {0}
IsSaving (Request.Dump file) = ⊥
IsSaving (Request.Explain topic) = ⊥
IsSaving Request.Library = ⊥
