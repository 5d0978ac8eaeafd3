-- What a run of a composition writes and tells, whose workers take turns on one thread or have a thread each, and why there is none.
use Rattle.std.specs.Prelude.{◌≡◌, ◌<◌, ◌≤◌, ◌⊎◌, ◌++◌, ◌∷◌, ℕ, Bool, true, false, List, [], Option, Some, None, Ok, Err, All, length, map, slice_get, take}
use Rattle.std.specs.Io.KnownBytes.{Appends, Keeps}
use Rattle.std.specs.Option.{option_copied}
use Rattle.ioa_value.specs.Actions.{Act, Name}
use Rattle.ioa_value.specs.Lists as lists
use Rattle.ioa_value.specs.Lists.{ReadsList}
use Rattle.ioa_value.specs.Table.{Table}
use Rattle.ioa_tree.specs.Proposing.{Words}
use Rattle.ioa_compile.specs.Subjects.{State, Subject, its_components, its_names, its_starts, its_types}
use Rattle.ioa_system.specs.Histories.{TellsHistory}
use Rattle.ioa_system.specs.Logs.{Logged}
use Rattle.ioa_device.specs.declared.failure.LogErr.{LogErr}
use Rattle.ioa_log.specs.LogTexts.{log_text}
use Rattle.ioa_board.specs.declared.report.Report.{Report}
use Rattle.ioa_board.specs.ProgramRooms.{IsInput}
use Rattle.ioa_run.specs.Alone.{IsFirstOther, NoMemory, most_turns}
use Rattle.ioa_board.specs.Boards as boards
use Rattle.ioa_board.specs.Histories.{GoesOn, since}
use Rattle.ioa_board.specs.Outcomes.{HaveEnded, ending, with_faulted}
use Rattle.ioa_run.specs.Proposers.{its_proposers}
use Rattle.ioa_board.specs.Reports.{AreTold}
use Rattle.ioa_board.specs.Resuming.{resumption}
use Rattle.ioa_run.specs.Seeds.{words_from}
use Rattle.ioa_run.specs.declared.tally.Tries.{Tries}
use Rattle.ioa_run.specs.Tallies.{AddUp}
use Rattle.ioa_run.specs.Turns.{Turns, alone_from}
use Rattle.ioa_board.specs.declared.run_err.RunErr.{RunErr}
use Rattle.ioa_serving.specs.declared.failure.Failure.{Failure}
use Rattle.ioa_request.specs.declared.settings.Settings.{Settings}
use Rattle.ioa_request.specs.declared.settings.WordsFrom.{WordsFrom}
use Rattle.ioa_serving.specs.declared.status.Status.{Status}
use Rattle.ioa_serving.specs.declared.word_sources.WordSources.{WordSources}
use Rattle.ioa_serving.specs.Coverage.{behind, told_coverage}
use Rattle.ioa_serving.specs.Failing.{IsNoObject, IsRefusedFile}
use Rattle.ioa_serving.specs.Headline.{IsFileOf}
use Rattle.ioa_serving.specs.Streams.{AreStreams, key_words}
use Rattle.ioa_serving.specs.Logs.{log_run_text, performed_in}
use Rattle.ioa_serving.specs.Resuming.{HasBadText, IsFrom, IsResumable, LacksFile}
use Rattle.ioa_serving.specs.RunReports.{inputs_left, its_own_names, left_text, reports_text, tallies_text, wants_text}
use Rattle.ioa_serving.specs.Statuses.{ending_status}
use Rattle.ioa_serving.specs.WordLists.{AreWords, IsBadWords, line_words, listed, words_to_come}

-- ---- what a run is

-- The log tells a legal history of the subject, which begins with what was done before, and the fault by which it ends, if it does. Of what is new the
-- reports tell: each counts what its worker performed, and the environment performed the script's first actions, in order. All turns of each worker are
-- counted, or fewer, where its action faulted or another's did, which then ends the log, or memory was refused to it, which is told.
pub record IsRun (s : Subject) (before : List (ℕ × Act)) (script : List Act) (turns : ℕ) (log : Logged) (reports : List Report) : Type 0 where
  pub legal : TellsHistory (its_components s) (its_starts s) log
  pub history : List (ℕ × Act)
  pub failure : Option boards.Failure
  pub entries : log.entries ≡ with_faulted history failure
  pub ends : log.ending ≡ ending history failure
  pub goes_on : GoesOn before history
  pub told : AreTold (length (its_names s)) script turns (since before history) failure reports
  pub ended : HaveEnded turns log.ending reports

-- turns of all workers on one thread since this board, so many rounds of them: in each round the components in order, each by its own words, and then the
-- environment
abbrev pub round_robin_since : (s : Subject) → boards.Standing (State s) → List Words → List Act → ℕ → Turns (State s)
round_robin_since s b words script turns = alone_from (its_components s) (its_proposers s) script turns b words

-- the log and the reports are those of these turns
pub record IsRoundRobin (s : Subject) (b : boards.Standing (State s)) (words : List Words) (script : List Act) (turns : ℕ) (log : Logged) (reports : List Report) : Type 0 where
  pub entries : log.entries ≡ with_faulted (round_robin_since s b words script turns).board.history (round_robin_since s b words script turns).board.failure
  pub ends : log.ending ≡ ending (round_robin_since s b words script turns).board.history (round_robin_since s b words script turns).board.failure
  pub told : reports ≡ (round_robin_since s b words script turns).reports

-- so they are since the log from which the subject goes on, by these words
abbrev pub AreTurnsSince : Subject → Logged → List Words → List Act → ℕ → Logged → List Report → Type 0
AreTurnsSince s before words script turns log reports =
    (b : boards.Standing (State s)) × (resumption (its_components s) (its_starts s) before ≡ Ok b) × IsRoundRobin s b words script turns log reports

-- what is written of it: the log, or the external trace and how the run ends
abbrev pub written : Subject → Bool → Logged → List ℕ
written s true log = log_text (its_types s) log
written s false log = log_run_text s log

-- what is told of it, where its reports are asked for: these, and behind them what became of the turns of each entry, by what is new in the history, and the inputs that
-- were not performed
abbrev pub told_of : Subject → Bool → List Report → List (ℕ × Act) → List (List Tries) → List Act → Option (List ℕ)
told_of s true reports new tallies script =
    Some (reports_text (its_names s) reports ++ (tallies_text new 0 (its_names s) (its_own_names s) tallies ++ left_text (its_types s) (inputs_left (length (its_names s)) reports script)))
told_of s false reports new tallies script = None

-- and of whom memory was refused to, which is told of every run
abbrev pub wants_of_run : Subject → List Report → List ℕ
wants_of_run s reports = wants_text (its_names s) reports

-- ---- what it is given

-- the file may hold a source that declares these hosts, or the object of this program
abbrev pub MayGive : (Name → List ℕ → Type 0) → Settings → Subject → Type 0
MayGive holds s x = (text : List ℕ) × holds s.file.now text × IsFileOf text (option_copied s.composition) x

-- where the words of so many workers are listed, the file may hold a text that lists them
abbrev pub HasWords : (Name → List ℕ → Type 0) → WordsFrom → ℕ → Type 0
HasWords holds (WordsFrom.Key key) workers = Unit {0}
HasWords holds (WordsFrom.File file) workers =
    (text : List ℕ) × holds file.now text × ((words : List (List ℕ)) × AreWords workers text words)

-- each of so many workers has its own words, by its number
pub record HaveOwn (workers : ℕ) (own : ℕ → Words) (words : List Words) : Type 0 where
  pub count : length words ≡ workers
  pub each : (i : ℕ) (ws : Words) → slice_get words i ≡ Some ws → (k : ℕ) → ws k ≡ own i k

-- the words of so many workers are from there: of the key, each worker's stream; of a text that the file may hold, each worker's line, and
-- zeros after it
abbrev pub AreGiven : (Name → List ℕ → Type 0) → WordsFrom → ℕ → List Words → Type 0
AreGiven holds (WordsFrom.Key key) workers words = HaveOwn workers (key_words key) words
AreGiven holds (WordsFrom.File file) workers words =
    (text : List ℕ) × holds file.now text × ((lists : List (List ℕ)) × AreWords workers text lists) × HaveOwn workers (line_words text) words

-- the script is that of a list that the file may hold; without a file it is empty
abbrev pub IsScript : (Name → List ℕ → Type 0) → Table → Option Name → List Act → Type 0
IsScript holds types None script = script ≡ []
IsScript holds types (Some file) script = (text : List ℕ) × holds file text × ReadsList types text script

-- all that is read for a run of this subject with this script, which goes on from this log
pub record IsReady (holds : Name → List ℕ → Type 0) (s : Settings) (x : Subject) (script : List Act) (before : Logged) : Type 0 where
  pub gives : MayGive holds s x
  pub words : HasWords holds s.words (length (its_names x))
  pub inputs : IsScript holds (its_types x) (option_copied s.inputs) script
  pub log : IsFrom holds (its_types x) (option_copied s.resume) before

-- ---- what comes of it

-- a run that is asked for on one thread is that of the turns that are defined, by words that are given, where memory is refused to no worker
abbrev pub IsExact : (Name → List ℕ → Type 0) → Settings → Subject → Logged → List Act → Logged → List Report → Type 0
IsExact holds s x before script log reports =
    s.alone ≡ true → NoMemory reports → (words : List Words) × AreGiven holds s.words (length (its_names x)) words × AreTurnsSince x before words script s.turns log reports

-- all is read; the turns are not too many, the script is of inputs, and the subject goes on from the log; and this came of the run
pub record CameOf (holds : Name → List ℕ → Type 0) (s : Settings) (x : Subject) (log : Logged) (reports : List Report) : Type 0 where
  pub script : List Act
  pub before : Logged
  pub ready : IsReady holds s x script before
  pub turns : s.turns ≤ most_turns
  pub inputs : All (IsInput (its_components x)) script
  pub resumed : IsResumable x before
  pub run : IsRun x before.entries script s.turns log reports
  pub exact : IsExact holds s x before script log reports

-- a run's text is written, and its reports, where they are asked for, with tallies that add up to them, and how often each entry was performed and each arm and body
-- taken, where that is asked for, and the workers to which memory was refused are left to be told
pub record IsRunServed (holds : Name → List ℕ → Type 0) (s : Settings) (before after : Option (List ℕ)) (telling : Option (List ℕ)) (wants : List ℕ) (done : Status) : Type 0 where
  pub subject : Subject
  pub log : Logged
  pub reports : List Report
  pub came : CameOf holds s subject log reports
  pub tallies : List (List Tries)
  pub tallied : AddUp (since came.before.entries came.run.history) (its_own_names subject) reports tallies
  pub output : Appends before after (written subject s.log log)
  pub told : telling ≡ behind (told_of subject s.reports reports (since came.before.entries came.run.history) tallies came.script) (told_coverage subject s.coverage (performed_in log ∷ []))
  pub wanting : wants ≡ wants_of_run subject reports
  pub status : done ≡ ending_status log.ending

-- why a text is not all written: the device failed, which has taken a beginning of it; or memory was short, and nothing is written
abbrev pub IsCutShort : List ℕ → Type 0 → Option (List ℕ) → Option (List ℕ) → Failure → Type 0
IsCutShort text failed before after e =
    ((e ≡ Failure.List LogErr.Io) × failed × ((k : ℕ) × Appends before after (take k text)))
    ⊎ (((e ≡ Failure.List LogErr.OutOfMemory) ⊎ (e ≡ Failure.OutOfMemory)) × Keeps before after)

-- a run's text is not all written; the workers to which memory was refused are left to be told as of any run
pub record IsRunCut (holds : Name → List ℕ → Type 0) (s : Settings) (failed : Type 0) (before after : Option (List ℕ)) (wants : List ℕ) (e : Failure) : Type 0 where
  pub subject : Subject
  pub log : Logged
  pub reports : List Report
  pub came : CameOf holds s subject log reports
  pub cut : IsCutShort (written subject s.log log) failed before after e
  pub wanting : wants ≡ wants_of_run subject reports

-- ---- why there is none

-- a load of the file of words may fail
abbrev pub LacksWords : (Name → Type 0) → WordsFrom → Type 0
LacksWords lacks (WordsFrom.Key key) = ⊥
LacksWords lacks (WordsFrom.File file) = lacks file.now

-- the words are from there: of the key, each worker's stream; of the file, each worker's line, from its first word
abbrev pub AreSources : (Name → List ℕ → Type 0) → WordsFrom → ℕ → WordSources → Type 0
AreSources holds (WordsFrom.Key key) workers (WordSources.Seeded sources) = AreStreams key workers sources.items
AreSources holds (WordsFrom.Key key) workers (WordSources.Listed sources) = ⊥
AreSources holds (WordsFrom.File file) workers (WordSources.Seeded sources) = ⊥
AreSources holds (WordsFrom.File file) workers (WordSources.Listed sources) =
    (text : List ℕ) × holds file.now text × AreWords workers text (map listed sources.items) × All (λ s. s.taken ≡ 0) sources.items

abbrev pub count_of : WordSources → ℕ
count_of (WordSources.Seeded sources) = length sources.items
count_of (WordSources.Listed sources) = length sources.items

-- the words that they are to give
abbrev pub streams_of : WordSources → List Words
streams_of (WordSources.Seeded sources) = map words_from sources.items
streams_of (WordSources.Listed sources) = map words_to_come sources.items

-- the file may hold a text of which this line is the first that lists no words
abbrev pub HasBadWords : (Name → List ℕ → Type 0) → WordsFrom → ℕ → ℕ → Type 0
HasBadWords holds (WordsFrom.Key key) workers n = ⊥
HasBadWords holds (WordsFrom.File file) workers n = (text : List ℕ) × holds file.now text × IsBadWords workers text n

-- the file may hold a text of which this line is the first that is no action
abbrev pub HasBadLine : (Name → List ℕ → Type 0) → Table → Option Name → ℕ → Type 0
HasBadLine holds types None n = ⊥
HasBadLine holds types (Some file) n = (text : List ℕ) × holds file text × lists.BadLine types text n

-- why there are no words, and why there is no script
abbrev pub IsWordless : (Name → List ℕ → Type 0) → (Name → Type 0) → WordsFrom → ℕ → Failure → Type 0
IsWordless holds lacks from workers (Failure.BadWords n) = HasBadWords holds from workers n
IsWordless holds lacks from workers Failure.Io = LacksWords lacks from
IsWordless holds lacks from workers Failure.OutOfMemory = Unit {0}
IsWordless holds lacks from workers (Failure.Refused r) = ⊥
IsWordless holds lacks from workers (Failure.Object e) = ⊥
IsWordless holds lacks from workers Failure.SourceWanted = ⊥
IsWordless holds lacks from workers (Failure.List e) = ⊥
IsWordless holds lacks from workers Failure.SpecHasInternal = ⊥
IsWordless holds lacks from workers Failure.TooManyTurns = ⊥
IsWordless holds lacks from workers (Failure.BadInput i) = ⊥
IsWordless holds lacks from workers Failure.Threads = ⊥
IsWordless holds lacks from workers (Failure.BadLog i) = ⊥
IsWordless holds lacks from workers Failure.EndedByFault = ⊥
IsWordless holds lacks from workers (Failure.RunLog e) = ⊥

abbrev pub IsScriptless : (Name → List ℕ → Type 0) → (Name → Type 0) → Table → Option Name → Failure → Type 0
IsScriptless holds lacks types file (Failure.List (LogErr.BadEntry n)) = HasBadLine holds types file n
IsScriptless holds lacks types file Failure.Io = LacksFile lacks file
IsScriptless holds lacks types file Failure.OutOfMemory = Unit {0}
IsScriptless holds lacks types file (Failure.List (LogErr.NotJson n)) = ⊥
IsScriptless holds lacks types file (Failure.List (LogErr.WrongOwner n)) = ⊥
IsScriptless holds lacks types file (Failure.List (LogErr.Diverges n)) = ⊥
IsScriptless holds lacks types file (Failure.List LogErr.NoEnd) = ⊥
IsScriptless holds lacks types file (Failure.List LogErr.AfterEnd) = ⊥
IsScriptless holds lacks types file (Failure.List LogErr.Io) = ⊥
IsScriptless holds lacks types file (Failure.List LogErr.OutOfMemory) = ⊥
IsScriptless holds lacks types file (Failure.Refused r) = ⊥
IsScriptless holds lacks types file (Failure.Object e) = ⊥
IsScriptless holds lacks types file Failure.SourceWanted = ⊥
IsScriptless holds lacks types file (Failure.BadWords n) = ⊥
IsScriptless holds lacks types file Failure.SpecHasInternal = ⊥
IsScriptless holds lacks types file Failure.TooManyTurns = ⊥
IsScriptless holds lacks types file (Failure.BadInput i) = ⊥
IsScriptless holds lacks types file Failure.Threads = ⊥
IsScriptless holds lacks types file (Failure.BadLog i) = ⊥
IsScriptless holds lacks types file Failure.EndedByFault = ⊥
IsScriptless holds lacks types file (Failure.RunLog e) = ⊥

-- the script is read, if there is one
abbrev pub HasScript : (Name → List ℕ → Type 0) → Table → Option Name → Type 0
HasScript holds types file = (script : List Act) × IsScript holds types file script

-- a file is not read: the first one; or where that gives a subject, the words'; or where all have words, the script's; or where that is read, the log's
abbrev pub IsUnloaded : (Name → List ℕ → Type 0) → (Name → Type 0) → Settings → Type 0
IsUnloaded holds lacks s =
    lacks s.file.now
    ⊎ ((x : Subject) × MayGive holds s x
    × (LacksWords lacks s.words
    ⊎ (HasWords holds s.words (length (its_names x))
    × (LacksFile lacks (option_copied s.inputs) ⊎ (HasScript holds (its_types x) (option_copied s.inputs) × LacksFile lacks (option_copied s.resume))))))

-- all is read, the turns are not too many, and the script is of inputs
abbrev pub IsSetOut : (Name → List ℕ → Type 0) → Settings → Subject → List Act → Logged → Type 0
IsSetOut holds s x script before = IsReady holds s x script before × (s.turns ≤ most_turns) × All (IsInput (its_components x)) script

-- but the subject does not go on from the log, for this reason
abbrev pub IsNotGoneOnFrom : (Name → List ℕ → Type 0) → Settings → Subject → RunErr → Type 0
IsNotGoneOnFrom holds s x e = (script : List Act) × (before : Logged) × IsSetOut holds s x script before × (resumption (its_components x) (its_starts x) before ≡ Err e)

-- Each reason comes only where those before it do not hold: a file is not read; the source or its composition, or the object, is refused; a line of
-- words is none; a line of the script is no action; the log is none; there are too many turns; an action of the script is no input; the log ends by a
-- fault; the subject does not go on from it; a thread is refused, of which a run on one thread takes none. Memory may be short at any time.
abbrev pub IsUnrun : (Name → List ℕ → Type 0) → (Name → Type 0) → Settings → Failure → Type 0
IsUnrun holds lacks s (Failure.Refused r) = (text : List ℕ) × holds s.file.now text × IsRefusedFile text (option_copied s.composition) r
IsUnrun holds lacks s (Failure.Object e) = (text : List ℕ) × holds s.file.now text × IsNoObject text e
IsUnrun holds lacks s Failure.SourceWanted = ⊥
IsUnrun holds lacks s (Failure.BadWords n) = (x : Subject) × MayGive holds s x × HasBadWords holds s.words (length (its_names x)) n
IsUnrun holds lacks s (Failure.List (LogErr.BadEntry n)) =
    (x : Subject) × MayGive holds s x × HasWords holds s.words (length (its_names x)) × HasBadLine holds (its_types x) (option_copied s.inputs) n
IsUnrun holds lacks s (Failure.RunLog e) =
    (x : Subject) × MayGive holds s x × HasWords holds s.words (length (its_names x)) × HasScript holds (its_types x) (option_copied s.inputs)
    × HasBadText holds (its_types x) (option_copied s.resume) e
IsUnrun holds lacks s Failure.TooManyTurns = (x : Subject) × (script : List Act) × (before : Logged) × IsReady holds s x script before × (most_turns < s.turns)
IsUnrun holds lacks s (Failure.BadInput i) =
    (x : Subject) × (script : List Act) × (before : Logged) × IsReady holds s x script before × (s.turns ≤ most_turns) × IsFirstOther (its_components x) script i
IsUnrun holds lacks s Failure.EndedByFault = (x : Subject) × IsNotGoneOnFrom holds s x RunErr.EndedByFault
IsUnrun holds lacks s (Failure.BadLog i) = (x : Subject) × IsNotGoneOnFrom holds s x (RunErr.BadLog i)
IsUnrun holds lacks s Failure.Threads = (x : Subject) × (script : List Act) × (before : Logged) × IsSetOut holds s x script before × IsResumable x before × (s.alone ≡ false)
IsUnrun holds lacks s (Failure.List LogErr.Io) = ⊥
IsUnrun holds lacks s Failure.Io = IsUnloaded holds lacks s
IsUnrun holds lacks s Failure.OutOfMemory = Unit {0}
IsUnrun holds lacks s (Failure.List LogErr.OutOfMemory) = ⊥
IsUnrun holds lacks s (Failure.List (LogErr.NotJson n)) = ⊥
IsUnrun holds lacks s (Failure.List (LogErr.WrongOwner n)) = ⊥
IsUnrun holds lacks s (Failure.List (LogErr.Diverges n)) = ⊥
IsUnrun holds lacks s (Failure.List LogErr.NoEnd) = ⊥
IsUnrun holds lacks s (Failure.List LogErr.AfterEnd) = ⊥
IsUnrun holds lacks s Failure.SpecHasInternal = ⊥

-- it was not run, nothing is written, and of no worker there is anything to tell; or it was run, and its text is not all written
abbrev pub IsRunUnserved : (Name → List ℕ → Type 0) → (Name → Type 0) → Settings → Type 0 → Option (List ℕ) → Option (List ℕ) → List ℕ → Failure → Type 0
IsRunUnserved holds lacks s failed before after wants e = (IsUnrun holds lacks s e × Keeps before after × (wants ≡ [])) ⊎ IsRunCut holds s failed before after wants e
