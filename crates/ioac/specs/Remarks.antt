-- What is told, where an explanation is asked for, of a request that was served: by what the files may hold now, and by what was heard of standard input.
use Rattle.std.specs.Prelude.{◌≡◌, ◌≢◌, ◌⊎◌, ◌++◌, ℕ, Bool, true, false, List, [], Option, Some, None, codes, slice_get}
use Rattle.std.specs.Borrow.{Bor}
use Rattle.std.specs.Fmt.{decimal}
use Rattle.std.specs.Option.{option_copied, option_map, option_map_or}
use Rattle.ioa_value.specs.Actions.{Act, Name}
use Rattle.ioa_value.specs.Lists.{BadLine, ReadsList}
use Rattle.ioa_value.specs.Table.{Table}
use Rattle.ioa_lex.specs.declared.refusal.Refusal.{Refusal}
use Rattle.ioa_tree.specs.Hosts.{Hosted, hosts_of, host_starts}
use Rattle.ioa_tree.specs.Runs.{run}
use Rattle.ioa_compose.specs.declared.composition.Composition.{Composition}
use Rattle.ioa_compose.specs.Held.{composed_of}
use Rattle.ioa_compose.specs.Simulates.{Simulates}
use Rattle.ioa_compile.specs.Implements.{Implements}
use Rattle.ioa_compile.specs.Programs.{Prog}
use Rattle.ioa_bytes.specs.declared.failure.ObjErr.{ObjErr}
use Rattle.ioa_system.specs.Logs.{Logged, actions_of, logged}
use Rattle.ioa_log.specs.Begun.{IsBegun, IsUnbegun}
use Rattle.ioa_log.specs.LogTexts.{GoesOnAt, HasNoEnd, NoEntryAt, NotJsonAt, ReadsLog, log_text}
use Rattle.ioa_enabled.specs.Next.{next_lines}
use Rattle.ioa_enabled.specs.Told.{ShareTypes}
use Rattle.ioa_account.specs.declared.remarks.Told.{Told}
use Rattle.ioa_account.specs.Objects.{TellsObject}
use Rattle.ioa_account.specs.Lines.{line_at}
use Rattle.ioa_account.specs.Quoted.{shown_text}
use Rattle.ioa_account.specs.Remarks.{TellsDifference, TellsEnd, TellsInspected, TellsMonitored, list_line, log_line}
use Rattle.ioac.specs.declared.remarks.ended.Ended.{Ended}
use Rattle.ioac.specs.Hints.{TellsHint}
use Rattle.ioac.specs.Idle.{idle_text}
use Rattle.ioa_request.specs.declared.code.Code.{Code}
use Rattle.ioa_request.specs.declared.request.Request.{Request}
use Rattle.ioa_request.specs.Codes.{spelling}
use Rattle.ioa_serving.specs.declared.status.Status.{Status}
use Rattle.ioa_serving.specs.declared.failure.Failure.{Failure}
use Rattle.ioa_serving.specs.declared.run.Ran.{Ran}
use Rattle.ioa_serving.specs.Failing.{IsRefusedGiven, IsRefusedSource}
use Rattle.ioa_serving.specs.Headline.{Declares, IsObjectOf, begins_object}
use Rattle.ioa_serving.specs.LogCounts.{monitor_counts}
use Rattle.ioa_serving.specs.Logs.{performed_in}

-- ---- the source that is looked at once more

-- what names and compositions these are
abbrev pub named_by : Option (Bor (List ℕ) × Option (Bor (List ℕ))) → Option (Name × Option Name)
named_by o = option_map (λ p. (p.0.now, option_copied p.1)) o

-- the source or the object that a request names, and the composition
abbrev pub source_of : Request → Option (Name × Option Name)
source_of (Request.Replay file composition json) = Some (file.now, option_copied composition)
source_of (Request.ReplayStates file composition shown) = Some (file.now, option_copied composition)
source_of (Request.ReplayLog file composition json) = Some (file.now, option_copied composition)
source_of (Request.ReplayLogStates file composition shown) = Some (file.now, option_copied composition)
source_of (Request.ReplayInvariants file composition json) = Some (file.now, option_copied composition)
source_of (Request.ReplayCoverage file composition log json) = Some (file.now, option_copied composition)
source_of (Request.Log file composition) = Some (file.now, option_copied composition)
source_of (Request.LogByLog file composition) = Some (file.now, option_copied composition)
source_of (Request.Monitor file composition) = Some (file.now, option_copied composition)
source_of (Request.MonitorJson file composition) = Some (file.now, option_copied composition)
source_of (Request.StrictMonitor file composition json) = Some (file.now, option_copied composition)
source_of (Request.Watch file compositions first counts json) = Some (file.now, option_copied (slice_get compositions.now 0))
source_of (Request.Chart file composition selection) = Some (file.now, option_copied composition)
source_of (Request.Graph file composition) = Some (file.now, option_copied composition)
source_of (Request.Run settings) = Some (settings.file.now, option_copied settings.composition)
source_of (Request.Seeds seeds) = Some (seeds.run.file.now, option_copied seeds.run.composition)
source_of (Request.Check file compositions) = Some (file.now, None)
source_of (Request.Compile file out composition) = Some (file.now, option_copied composition)
source_of (Request.Dump file) = Some (file.now, None)
source_of (Request.Explain topic) = None
source_of Request.Library = None

-- a load of the file may give these bytes; where it may fail, there are none
abbrev pub IsLoaded : (Name → List ℕ → Type 0) → (Name → Type 0) → Name → List ℕ → Type 0
IsLoaded holds lacks file bytes = holds file bytes ⊎ (lacks file × (bytes ≡ []))

-- the composition that the source declares; none, where it is refused
abbrev pub IsComposed : List ℕ → Option Name → Option Composition → Type 0
IsComposed source name None = (r : Refusal) × (r ≢ Refusal.OutOfMemory) × IsRefusedSource source name r
IsComposed source name (Some c) = (h : Hosted) × Declares source name h × Simulates h (composed_of c)

-- the program that the bytes are the object of; none, where they are refused, or are one of another composition
abbrev pub IsProgramOf : List ℕ → Option Name → Option Prog → Type 0
IsProgramOf object name None = (e : Failure) × (e ≢ Failure.Object ObjErr.OutOfMemory) × IsRefusedGiven object name e
IsProgramOf object name (Some p) = IsObjectOf object name p

-- ---- what was heard

-- the bytes are no log
abbrev pub IsNoLog : Table → List ℕ → Type 0
IsNoLog types bytes = ((n : ℕ) × (NotJsonAt types bytes n ⊎ (NoEntryAt types bytes n ⊎ GoesOnAt types bytes n))) ⊎ HasNoEnd types bytes

-- of the list, or of the log, that the bytes are this is told; of other bytes nothing
abbrev pub OfList : Told → (List Act → List ℕ → List ℕ → Type 0) → List ℕ → List ℕ → Type 0
OfList t tells before after =
    ((acts : List Act) × ReadsList t.composition.now.types t.input.now acts × tells acts before after)
    ⊎ (((n : ℕ) × BadLine t.composition.now.types t.input.now n) × (after ≡ before))

abbrev pub OfLogOver : Table → List ℕ → (Logged → List ℕ → List ℕ → Type 0) → List ℕ → List ℕ → Type 0
OfLogOver types input tells before after = ((log : Logged) × ReadsLog types input log × tells log before after) ⊎ (IsNoLog types input × (after ≡ before))

abbrev pub OfLog : Told → (Logged → List ℕ → List ℕ → Type 0) → List ℕ → List ℕ → Type 0
OfLog t tells before after = OfLogOver t.composition.now.types t.input.now tells before after

-- of the log that the first lines are, up to this one, whatever follows: of its entries, and of its end, where this comes next; of other lines nothing
abbrev pub OfBegun : Told → ℕ → (Logged → List ℕ → List ℕ → Type 0) → List ℕ → List ℕ → Type 0
OfBegun t n tells before after =
    ((log : Logged) × IsBegun t.composition.now.types t.input.now n log × tells log before after) ⊎ (IsUnbegun t.composition.now.types t.input.now n × (after ≡ before))

-- of each hosts that the composition stands for
abbrev pub OfHosts : Told → (Hosted → List ℕ → List ℕ → Type 0) → List ℕ → List ℕ → Type 0
OfHosts t tells before after = (h : Hosted) → Simulates h (composed_of t.composition.now) → tells h before after

-- why the run of a list ends, and of an action that no component has which entries it may mean
abbrev pub TellsListed : Told → List Act → List ℕ → List ℕ → Type 0
TellsListed t acts before after = (told : List ℕ) × TellsEnd t (list_line t) acts before told × TellsHint t acts told after

abbrev pub TellsListEnd : Told → List ℕ → List ℕ → Type 0
TellsListEnd t before after = OfList t (TellsListed t) before after

-- of what a log tells to be performed how many actions a program that means the composition takes, by its names; how many it has, and what came of them
abbrev pub TellsCounted : Told → List Act → List ℕ → List ℕ → Type 0
TellsCounted t acts before after =
    (p : Prog) × Implements p (composed_of t.composition.now) × OfHosts t (λ h. TellsMonitored t h acts) (before ++ monitor_counts p acts) after

abbrev pub TellsLogEnd : Told → List ℕ → List ℕ → Type 0
TellsLogEnd t before after = OfLog t (λ log. TellsEnd t (log_line t) (actions_of log)) before after

-- which of their own actions the hosts may perform next in the states that their run over these actions reaches, or that they perform none
abbrev pub reached_text : Hosted → List Act → List ℕ
reached_text h acts = next_lines h.types h.hosts (run (hosts_of h) acts (host_starts h)).states

abbrev pub TellsReached : Told → List Act → List ℕ → List ℕ → Type 0
TellsReached t acts before after = OfHosts t (λ h old new. ShareTypes h → new ≡ old ++ reached_text h acts) before after

-- of a log, or of a list
abbrev pub TellsEndBy : Bool → Told → List ℕ → List ℕ → Type 0
TellsEndBy true t before after = TellsLogEnd t before after
TellsEndBy false t before after = TellsListEnd t before after

-- of a run that is done which of their actions the components never performed, and what they may perform next; behind that stand words for people
abbrev pub TellsDone : Told → Logged → List ℕ → List ℕ → Type 0
TellsDone t log before after =
    (told : List ℕ) × (rest : List ℕ) × TellsReached t (actions_of log) (before ++ idle_text log.entries 0 t.composition.now.members) told × (after ≡ told ++ rest)

-- of a run that a fault ended the same as of its log
abbrev pub TellsRunEnd : Status → Told → List ℕ → List ℕ → Type 0
TellsRunEnd Status.Faulted t before after = TellsLogEnd t before after
TellsRunEnd Status.Done t before after = OfLog t (TellsDone t) before after
TellsRunEnd Status.NotAccepted t before after = after ≡ before
TellsRunEnd Status.Refused t before after = after ≡ before
TellsRunEnd Status.BadCommandLine t before after = after ≡ before
TellsRunEnd Status.Unable t before after = after ≡ before

-- what is told of a request that was served to this status, or whose log is of another run by this line
abbrev pub Explains : Request → Ended → Told → List ℕ → List ℕ → Type 0
Explains request (Ended.Diverged n) t before after = OfBegun t n (λ log. TellsDifference t (actions_of log) log.ending) before after
Explains (Request.Replay file composition json) (Ended.Served status) t before after = TellsListEnd t before after
Explains (Request.ReplayStates file composition shown) (Ended.Served status) t before after = TellsListEnd t before after
Explains (Request.Log file composition) (Ended.Served status) t before after = TellsListEnd t before after
Explains (Request.ReplayLog file composition json) (Ended.Served status) t before after = TellsLogEnd t before after
Explains (Request.ReplayLogStates file composition shown) (Ended.Served status) t before after = TellsLogEnd t before after
Explains (Request.LogByLog file composition) (Ended.Served status) t before after = TellsLogEnd t before after
Explains (Request.Chart file composition selection) (Ended.Served status) t before after = TellsLogEnd t before after
Explains (Request.ReplayInvariants file composition json) (Ended.Served status) t before after = OfLog t (λ log. OfHosts t (λ h. TellsInspected t h log)) before after
Explains (Request.ReplayCoverage file composition log json) (Ended.Served status) t before after = TellsEndBy log t before after
Explains (Request.Monitor file composition) (Ended.Served status) t before after = OfLog t (λ log. TellsCounted t (performed_in log)) before after
Explains (Request.MonitorJson file composition) (Ended.Served status) t before after = OfLog t (λ log. TellsCounted t (performed_in log)) before after
Explains (Request.StrictMonitor file composition json) (Ended.Served status) t before after = OfLog t (λ log. TellsCounted t (performed_in log)) before after
Explains (Request.Watch file compositions first counts json) (Ended.Served status) t before after = after ≡ before
Explains (Request.Run settings) (Ended.Served status) t before after = TellsRunEnd status t before after
Explains (Request.Seeds seeds) (Ended.Served status) t before after = after ≡ before
Explains (Request.Graph file composition) (Ended.Served status) t before after = after ≡ before
Explains (Request.Check file compositions) (Ended.Served status) t before after = after ≡ before
Explains (Request.Compile file out composition) (Ended.Served status) t before after = after ≡ before
Explains (Request.Dump file) (Ended.Served status) t before after = after ≡ before
Explains (Request.Explain topic) (Ended.Served status) t before after = after ≡ before
Explains Request.Library (Ended.Served status) t before after = after ≡ before

-- ---- of an object, which has no source, and whose variables have no names

-- of the log that was heard how many of its actions the program takes, by its names, how many it has, and of the first that it does not perform why not
abbrev pub TellsObjectCounted : Prog → List ℕ → List Act → List ℕ → List ℕ → Type 0
TellsObjectCounted p input acts before after = TellsObject p input acts (before ++ monitor_counts p acts) after

abbrev pub TellsObjectLog : Prog → List ℕ → List ℕ → List ℕ → Type 0
TellsObjectLog p input before after = OfLogOver p.types input (λ log. TellsObjectCounted p input (performed_in log)) before after

abbrev pub TellsProgram : Option Prog → List ℕ → List ℕ → List ℕ → Type 0
TellsProgram None input before after = after ≡ before
TellsProgram (Some p) input before after = TellsObjectLog p input before after

-- this is told of the program that it is the object of; of one that is refused nothing
abbrev pub TellsObjectMonitor : List ℕ → Option Name → List ℕ → List ℕ → List ℕ → Type 0
TellsObjectMonitor object name input before after = (p : Option Prog) × IsProgramOf object name p × TellsProgram p input before after

-- of a monitor alone, where a request was served
abbrev pub TellsOfObject : Request → List ℕ → Option Name → List ℕ → List ℕ → List ℕ → Type 0
TellsOfObject (Request.Monitor file composition) object name input before after = TellsObjectMonitor object name input before after
TellsOfObject (Request.MonitorJson file composition) object name input before after = TellsObjectMonitor object name input before after
TellsOfObject (Request.StrictMonitor file composition json) object name input before after = TellsObjectMonitor object name input before after
TellsOfObject (Request.Watch file compositions first counts json) object name input before after = after ≡ before
TellsOfObject (Request.Replay file composition json) object name input before after = after ≡ before
TellsOfObject (Request.ReplayStates file composition shown) object name input before after = after ≡ before
TellsOfObject (Request.Log file composition) object name input before after = after ≡ before
TellsOfObject (Request.LogByLog file composition) object name input before after = after ≡ before
TellsOfObject (Request.ReplayLog file composition json) object name input before after = after ≡ before
TellsOfObject (Request.ReplayLogStates file composition shown) object name input before after = after ≡ before
TellsOfObject (Request.ReplayInvariants file composition json) object name input before after = after ≡ before
TellsOfObject (Request.ReplayCoverage file composition log json) object name input before after = after ≡ before
TellsOfObject (Request.Chart file composition selection) object name input before after = after ≡ before
TellsOfObject (Request.Run settings) object name input before after = after ≡ before
TellsOfObject (Request.Seeds seeds) object name input before after = after ≡ before
TellsOfObject (Request.Graph file composition) object name input before after = after ≡ before
TellsOfObject (Request.Check file compositions) object name input before after = after ≡ before
TellsOfObject (Request.Compile file out composition) object name input before after = after ≡ before
TellsOfObject (Request.Dump file) object name input before after = after ≡ before
TellsOfObject (Request.Explain topic) object name input before after = after ≡ before
TellsOfObject Request.Library object name input before after = after ≡ before

abbrev pub TellsNameless : Request → Ended → List ℕ → Option Name → List ℕ → List ℕ → List ℕ → Type 0
TellsNameless request (Ended.Diverged n) object name input before after = after ≡ before
TellsNameless request (Ended.Served status) object name input before after = TellsOfObject request object name input before after

-- ---- of what the file holds

-- It is told of the composition that the file declares, by its name and bytes. Of a refused source nothing is told.
abbrev pub TellsIn : Request → Ended → Name → List ℕ → List ℕ → Option Composition → List ℕ → List ℕ → Type 0
TellsIn request ended file source input None before after = after ≡ before
TellsIn request ended file source input (Some c) before after =
    (t : Told) × (t.file.now ≡ file) × (t.source.now ≡ source) × (t.input.now ≡ input) × (t.composition.now ≡ c) × Explains request ended t before after

abbrev pub TellsSource : Request → Ended → Name × Option Name → List ℕ → List ℕ → List ℕ → List ℕ → Type 0
TellsSource request ended from source input before after =
    (c : Option Composition) × IsComposed source from.1 c × TellsIn request ended from.0 source input c before after

-- of these bytes, as an object, or else as a source
abbrev pub TellsLoaded : Request → Ended → Name × Option Name → List ℕ → List ℕ → List ℕ → List ℕ → Type 0
TellsLoaded request ended from bytes input before after =
    ((begins_object bytes ≡ true) × TellsNameless request ended bytes from.1 input before after)
    ⊎ ((begins_object bytes ≡ false) × TellsSource request ended from bytes input before after)

abbrev pub TellsEnded : (Name → List ℕ → Type 0) → (Name → Type 0) → Request → Option (Name × Option Name) → Ended → List ℕ → List ℕ → List ℕ → Type 0
TellsEnded holds lacks request None ended input before after = after ≡ before
TellsEnded holds lacks request (Some from) ended input before after =
    (bytes : List ℕ) × IsLoaded holds lacks from.0 bytes × TellsLoaded request ended from bytes input before after

-- a source is to be checked, of which there may be warnings
abbrev pub IsChecking : Request → Type 0
IsChecking (Request.Check file compositions) = Unit {0}
IsChecking (Request.Replay file composition json) = ⊥
IsChecking (Request.ReplayStates file composition shown) = ⊥
IsChecking (Request.ReplayLog file composition json) = ⊥
IsChecking (Request.ReplayLogStates file composition shown) = ⊥
IsChecking (Request.ReplayInvariants file composition json) = ⊥
IsChecking (Request.ReplayCoverage file composition log json) = ⊥
IsChecking (Request.Log file composition) = ⊥
IsChecking (Request.LogByLog file composition) = ⊥
IsChecking (Request.Monitor file composition) = ⊥
IsChecking (Request.MonitorJson file composition) = ⊥
IsChecking (Request.StrictMonitor file composition json) = ⊥
IsChecking (Request.Watch file compositions first counts json) = ⊥
IsChecking (Request.Chart file composition selection) = ⊥
IsChecking (Request.Graph file composition) = ⊥
IsChecking (Request.Run settings) = ⊥
IsChecking (Request.Seeds seeds) = ⊥
IsChecking (Request.Compile file out composition) = ⊥
IsChecking (Request.Dump file) = ⊥
IsChecking (Request.Explain topic) = ⊥
IsChecking Request.Library = ⊥

-- the log of a run, which stands for what would be heard
abbrev pub log_of_run : Option Ran → Option (List ℕ)
log_of_run None = None
log_of_run (Some r) = Some (log_text r.program.types (logged r.log))

-- what is told of a request that was served to this status, behind the warnings
abbrev pub IsRemark : (Name → List ℕ → Type 0) → (Name → Type 0) → Request → List ℕ → Status → List ℕ → Type 0
IsRemark holds lacks request input status text =
    (warnings : List ℕ) × ((IsChecking request → ⊥) → warnings ≡ []) × TellsEnded holds lacks request (source_of request) (Ended.Served status) input warnings text

-- ---- the line by which an editor jumps

-- the file, the line and the code, behind which words follow
abbrev pub head_text : Name → ℕ → Code → List ℕ
head_text file n code = file ++ (codes ":" ++ (decimal n ++ (codes ": " ++ (spelling code ++ codes ": "))))

-- the line of this number, as it is shown; nothing, where there is none
abbrev pub shown_line : List ℕ → ℕ → List ℕ
shown_line bytes n = option_map_or shown_text (line_at bytes n) []

-- such a line with its words, and below it the line of the bytes that it names
abbrev pub jump_text : Name → ℕ → Code → List ℕ → List ℕ → List ℕ
jump_text file n code words bytes = head_text file n code ++ (words ++ (codes "\n" ++ shown_line bytes n))

-- where no line is named, the file and the code alone
abbrev pub flat_text : Name → Code → List ℕ → List ℕ
flat_text file code words = file ++ (codes ": " ++ (spelling code ++ (codes ": " ++ (words ++ codes "\n"))))

-- what is told of the line of a log that differs
abbrev pub differing_head : ℕ → List ℕ
differing_head n = head_text (codes "log") n Code.L4 ++ codes "the composition's run differs from here on\n"

-- and the line
abbrev pub differing_text : List ℕ → ℕ → List ℕ
differing_text input n = differing_head n ++ shown_line input n

-- of a log that is of another run: the line of the log that differs, and then how
abbrev pub TellsDiverged : (Name → List ℕ → Type 0) → (Name → Type 0) → Request → List ℕ → ℕ → List ℕ → List ℕ → Type 0
TellsDiverged holds lacks request input n before after =
    TellsEnded holds lacks request (source_of request) (Ended.Diverged n) input (before ++ differing_text input n) after

-- behind that stand words for people
abbrev pub IsDifference : (Name → List ℕ → Type 0) → (Name → Type 0) → Request → List ℕ → ℕ → List ℕ → List ℕ → Type 0
IsDifference holds lacks request input n before text = (told : List ℕ) × (rest : List ℕ) × TellsDiverged holds lacks request input n before told × (text ≡ told ++ rest)
