-- What is told of a line of a list, of a log or of a run's script, by the program of which the request asks: in which words.
use Rattle.std.specs.Prelude.{◌≡◌, ◌≢◌, ◌⊎◌, ◌++◌, ◌∷◌, ◌-◌, ◌==◌, ℕ, Bool, true, false, List, [], Option, Some, None, IfSome, codes, find, slice_get, unwrap_or}
use Rattle.std.specs.Fmt.{decimal}
use Rattle.std.specs.Option.{IsSomeAnd, option_and_then, option_map, option_map_or}
use Rattle.std.specs.Str.{bytes_eq}
use Rattle.ioa_value.specs.Actions.{Act, Name}
use Rattle.ioa_value.specs.Reads.{Reads}
use Rattle.ioa_value.specs.Table.{Table}
use Rattle.ioa_value.specs.Written.{written_action}
use Rattle.ioa_lex.specs.declared.refusal.Refusal.{Refusal}
use Rattle.ioa_tree.specs.declared.tree.Kind.{Kind}
use Rattle.ioa_tree.specs.Steps.{owner}
use Rattle.ioa_causes.specs.Composing.{kind_words}
use Rattle.ioa_causes.specs.Worded.{wording}
use Rattle.ioa_compile.specs.Programs.{EntryCode, MemberCode, Prog}
use Rattle.ioa_compile.specs.Tables.{tabled}
use Rattle.ioa_bytes.specs.declared.failure.ObjErr.{ObjErr}
use Rattle.ioa_device.specs.declared.failure.LogErr.{LogErr}
use Rattle.ioa_account.specs.Lines.{line_at}
use Rattle.ioa_request.specs.declared.request.Request.{Request}
use Rattle.ioa_serving.specs.declared.failure.Failure.{Failure}
use Rattle.ioa_serving.specs.Failing.{IsRefusedGiven}
use Rattle.ioa_serving.specs.FailureCodes.{failure_code}
use Rattle.ioa_serving.specs.Pictures.{IsProgramOf}
use Rattle.ioac.specs.Owners.{TellsOwner}
use Rattle.ioac.specs.Remarks.{IsLoaded, source_of}
use Rattle.ioac.specs.Unknown.{IsUnknownIn}

-- ---- the program

-- that of what the bytes declare, or of the object that they are; none, where they are refused
abbrev pub IsGivenProgram : List ℕ → Option Name → Option Prog → Type 0
IsGivenProgram bytes name None = (e : Failure) × (e ≢ Failure.Refused Refusal.OutOfMemory) × (e ≢ Failure.Object ObjErr.OutOfMemory) × IsRefusedGiven bytes name e
IsGivenProgram bytes name (Some p) = IsProgramOf bytes name p

-- that of the file and the composition that are named, as the file may be now
abbrev pub IsAskedProgram : (Name → List ℕ → Type 0) → (Name → Type 0) → Option (Name × Option Name) → Option Prog → Type 0
IsAskedProgram holds lacks None p = p ≡ None
IsAskedProgram holds lacks (Some from) p = (bytes : List ℕ) × IsLoaded holds lacks from.0 bytes × IsGivenProgram bytes from.1 p

-- ---- a line that cannot be read

-- how an action is written, and an entry of a log
abbrev pub action_words : List ℕ
action_words = codes "an action is written as `tick(5)`"

abbrev pub entry_words : List ℕ
entry_words = codes "a log has one JSON object a line, as `{\"act\":\"tick(5)\",\"who\":0}`, and last `{\"end\":\"done after 1\"}`"

-- the first word of its values that is not known; or else what is wanted
abbrev pub unread_words : List ℕ → List ℕ
unread_words wanted = codes "this line cannot be read: " ++ wanted

abbrev pub unknown_words : Name → List ℕ
unknown_words x = codes "the source has neither a type nor a name of an enumeration `" ++ (x ++ codes "`")

abbrev pub TellsUnread : Table → List ℕ → List ℕ → List ℕ → Type 0
TellsUnread types wanted line words = (x : Option Name) × IsUnknownIn types line x × (words ≡ option_map_or unknown_words x (unread_words wanted))

-- of a list: that it begins as a line of a log, and which requests read one; or else the same
abbrev pub begins_entry : List ℕ → Bool
begins_entry [] = false
begins_entry (b ∷ bs) = b == 123

abbrev pub option_by : Bool → List ℕ
option_by true = []
option_by false = codes ": with `--log` a log is read"

abbrev pub log_option : Request → List ℕ
log_option (Request.Replay file composition json) = codes ": with `--log` a log is read"
log_option (Request.ReplayStates file composition shown) = codes ": with `--log` a log is read"
log_option (Request.ReplayLog file composition json) = []
log_option (Request.ReplayLogStates file composition shown) = []
log_option (Request.ReplayInvariants file composition json) = []
log_option (Request.ReplayCoverage file composition log json) = option_by log
log_option (Request.Log file composition) = codes ": with `--log` a log is read"
log_option (Request.LogByLog file composition) = []
log_option (Request.Monitor file composition) = []
log_option (Request.MonitorJson file composition) = []
log_option (Request.StrictMonitor file composition json) = []
log_option (Request.Watch file compositions first counts json) = []
log_option (Request.Chart file composition selection) = []
log_option (Request.Graph file composition) = []
log_option (Request.Run settings) = []
log_option (Request.Seeds seeds) = []
log_option (Request.Check file compositions) = []
log_option (Request.Compile file out composition) = []
log_option (Request.Dump file) = []
log_option (Request.Explain topic) = []
log_option Request.Library = []

abbrev pub log_line_words : Request → List ℕ
log_line_words request = codes "this is a line of a log, and a list is wanted here" ++ log_option request

abbrev pub TellsNoAction : Request → Table → List ℕ → List ℕ → Type 0
TellsNoAction request types line words =
    ((begins_entry line ≡ true) × (words ≡ log_line_words request)) ⊎ ((begins_entry line ≡ false) × TellsUnread types action_words line words)

-- of a log, or of a list
abbrev pub TellsBadLine : Bool → Request → Table → List ℕ → List ℕ → Type 0
TellsBadLine true request types line words = TellsUnread types entry_words line words
TellsBadLine false request types line words = TellsNoAction request types line words

-- that it is the text of an action, and no JSON
abbrev pub list_line_words : List ℕ
list_line_words = codes "this is an action, as a list has, and a log is wanted here: `ioac log` makes one of a list"

abbrev pub no_json_words : List ℕ
no_json_words = codes "this line is no JSON: " ++ entry_words

abbrev pub TellsNoJson : Table → List ℕ → List ℕ → Type 0
TellsNoJson types line words =
    (((a : Act) × Reads types line a) × (words ≡ list_line_words)) ⊎ (((a : Act) → Reads types line a → ⊥) × (words ≡ no_json_words))

-- ---- a line behind a log's end

abbrev pub behind_end_words : ℕ → List ℕ
behind_end_words n = codes "the log ends on line " ++ (decimal (n - 1) ++ codes ", and nothing stands behind its end")

-- ---- an action that is no input

-- what it is in the component that performs it, by the first entry of its name there
abbrev pub named_kind : Name → List EntryCode → Option Kind
named_kind x es = option_map (λ (e : EntryCode). e.kind) (find (λ (e : EntryCode). bytes_eq e.name x) es)

abbrev pub kind_in : Name → MemberCode → Option (Name × Kind)
kind_in x m = option_map (λ kind. (m.name, kind)) (named_kind x m.entries)

abbrev pub owner_of : Prog → Act → Option MemberCode
owner_of p a = option_and_then (slice_get p.members) (owner (tabled p) a)

abbrev pub performer_of : Prog → Act → Option (Name × Kind)
performer_of p a = option_and_then (kind_in a.name) (owner_of p a)

-- whose it is and what; or that no component has it as an input
abbrev pub performed_words : List ℕ → Name × Kind → List ℕ
performed_words action by = action ++ (codes " is " ++ (kind_words by.1 ++ (codes " of " ++ (by.0 ++ codes ", and the environment performs inputs alone"))))

abbrev pub no_input_words : List ℕ → List ℕ
no_input_words action = codes "no component has " ++ (action ++ codes " as an input")

abbrev pub input_words : Prog → Act → List ℕ
input_words p a = option_map_or (performed_words (written_action p.types a)) (performer_of p a) (no_input_words (written_action p.types a))

-- of the action that the line is; nothing, where it is none
abbrev pub TellsNoInput : Prog → List ℕ → Option (List ℕ) → Type 0
TellsNoInput p line None = (a : Act) → Reads p.types line a → ⊥
TellsNoInput p line (Some words) = (a : Act) × Reads p.types line a × (words ≡ input_words p a)

-- ---- by the failure

-- of this line, which has the number n; of the worker of an entry what is told of the last entry up to that line, or nothing
abbrev pub TellsLogErr : LogErr → Request → Prog → Bool → List ℕ → ℕ → List ℕ → Option (List ℕ) → Type 0
TellsLogErr (LogErr.NotJson k) request p is_log bytes n line found = IsSomeAnd found (TellsNoJson p.types line)
TellsLogErr (LogErr.BadEntry k) request p is_log bytes n line found = IsSomeAnd found (TellsBadLine is_log request p.types line)
TellsLogErr (LogErr.WrongOwner k) request p is_log bytes n line found = IfSome found (TellsOwner p bytes n)
TellsLogErr LogErr.AfterEnd request p is_log bytes n line found = found ≡ Some (behind_end_words n)
TellsLogErr (LogErr.Diverges k) request p is_log bytes n line found = found ≡ None
TellsLogErr LogErr.NoEnd request p is_log bytes n line found = found ≡ None
TellsLogErr LogErr.Io request p is_log bytes n line found = found ≡ None
TellsLogErr LogErr.OutOfMemory request p is_log bytes n line found = found ≡ None

abbrev pub TellsFailure : Failure → Request → Prog → Bool → List ℕ → ℕ → List ℕ → Option (List ℕ) → Type 0
TellsFailure (Failure.List e) request p is_log bytes n line found = TellsLogErr e request p is_log bytes n line found
TellsFailure (Failure.RunLog e) request p is_log bytes n line found = TellsLogErr e request p is_log bytes n line found
TellsFailure (Failure.BadInput i) request p is_log bytes n line found = TellsNoInput p line found
TellsFailure (Failure.Refused r) request p is_log bytes n line found = found ≡ None
TellsFailure (Failure.Object e) request p is_log bytes n line found = found ≡ None
TellsFailure Failure.SourceWanted request p is_log bytes n line found = found ≡ None
TellsFailure Failure.SpecHasInternal request p is_log bytes n line found = found ≡ None
TellsFailure (Failure.BadWords k) request p is_log bytes n line found = found ≡ None
TellsFailure Failure.TooManyTurns request p is_log bytes n line found = found ≡ None
TellsFailure Failure.Threads request p is_log bytes n line found = found ≡ None
TellsFailure (Failure.BadLog i) request p is_log bytes n line found = found ≡ None
TellsFailure Failure.EndedByFault request p is_log bytes n line found = found ≡ None
TellsFailure Failure.Io request p is_log bytes n line found = found ≡ None
TellsFailure Failure.OutOfMemory request p is_log bytes n line found = found ≡ None

-- nothing, where there is no line of this number
abbrev pub TellsOfLine : Failure → Request → Prog → Bool → List ℕ → ℕ → Option (List ℕ) → Option (List ℕ) → Type 0
TellsOfLine e request p is_log bytes n None found = found ≡ None
TellsOfLine e request p is_log bytes n (Some line) found = TellsFailure e request p is_log bytes n line found

abbrev pub TellsHeard : Failure → Request → Prog → Bool → List ℕ → ℕ → Option (List ℕ) → Type 0
TellsHeard e request p is_log bytes n found = TellsOfLine e request p is_log bytes n (line_at bytes n) found

-- nothing, where there is no program
abbrev pub TellsBy : Option Prog → Failure → Request → Bool → List ℕ → ℕ → Option (List ℕ) → Type 0
TellsBy None e request is_log bytes n found = found ≡ None
TellsBy (Some p) e request is_log bytes n found = TellsHeard e request p is_log bytes n found

abbrev pub FindsHeard : (Name → List ℕ → Type 0) → (Name → Type 0) → Failure → Request → Bool → List ℕ → ℕ → Option (List ℕ) → Type 0
FindsHeard holds lacks e request is_log bytes n found = (p : Option Prog) × IsAskedProgram holds lacks (source_of request) p × TellsBy p e request is_log bytes n found

-- where nothing is found they are those that the code has in general
abbrev pub AreHeardWords : (Name → List ℕ → Type 0) → (Name → Type 0) → Failure → Request → Bool → List ℕ → ℕ → List ℕ → Type 0
AreHeardWords holds lacks e request is_log bytes n words =
    (found : Option (List ℕ)) × FindsHeard holds lacks e request is_log bytes n found × (words ≡ unwrap_or found (wording (failure_code e)))
