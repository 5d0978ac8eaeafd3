-- Which files a request names beside its source, and where what a failure tells of stands.
use Rattle.std.specs.Prelude.{ℕ, Bool, true, false, not, ◌+◌, ◌-◌, ◌^◌, min, List, [], ◌∷◌, Option, Some, None, codes}
use Rattle.std.specs.Option.{option_and_then, option_copied, option_map}
use Rattle.std.specs.Str.{bytes_eq}
use Rattle.ioa_value.specs.Actions.{Name}
use Rattle.ioa_lex.specs.declared.refusal.Refusal.{Refusal}
use Rattle.ioa_device.specs.declared.failure.LogErr.{LogErr}
use Rattle.ioa_request.specs.declared.request.Request.{Request}
use Rattle.ioa_request.specs.declared.settings.Settings.{Settings}
use Rattle.ioa_request.specs.declared.settings.WordsFrom.{WordsFrom}
use Rattle.ioa_serving.specs.declared.failure.Failure.{Failure}
use Rattle.ioac.specs.declared.remarks.places.Place.{Place}
use Rattle.ioac.specs.Remarks.{source_of}

-- ---- files

-- what a run is asked to be
abbrev pub settings_of : Request → Option Settings
settings_of (Request.Run settings) = Some settings
settings_of (Request.Seeds seeds) = Some seeds.run
settings_of (Request.Replay file composition json) = None
settings_of (Request.ReplayStates file composition shown) = None
settings_of (Request.ReplayLog file composition json) = None
settings_of (Request.ReplayLogStates file composition shown) = None
settings_of (Request.ReplayInvariants file composition json) = None
settings_of (Request.ReplayCoverage file composition log json) = None
settings_of (Request.Log file composition) = None
settings_of (Request.LogByLog file composition) = None
settings_of (Request.Monitor file composition) = None
settings_of (Request.MonitorJson file composition) = None
settings_of (Request.StrictMonitor file composition json) = None
settings_of (Request.Watch file compositions first counts json) = None
settings_of (Request.Chart file composition selection) = None
settings_of (Request.Graph file composition) = None
settings_of (Request.Check file compositions) = None
settings_of (Request.Compile file out composition) = None
settings_of (Request.Dump file) = None
settings_of (Request.Explain topic) = None
settings_of Request.Library = None

abbrev pub words_file : WordsFrom → Option Name
words_file (WordsFrom.Key bytes) = None
words_file (WordsFrom.File name) = Some name.now

-- a run's file of words, its script, and the log from which it goes on
abbrev pub words_of : Request → Option Name
words_of request = option_and_then (λ (s : Settings). words_file s.words) (settings_of request)

abbrev pub inputs_of : Request → Option Name
inputs_of request = option_and_then (λ (s : Settings). option_copied s.inputs) (settings_of request)

abbrev pub resume_of : Request → Option Name
resume_of request = option_and_then (λ (s : Settings). option_copied s.resume) (settings_of request)

-- the source or the object
abbrev pub file_of : Request → Option Name
file_of request = option_map (λ p. p.0) (source_of request)

-- all that a request reads
abbrev pub files_of : Request → List (Option Name)
files_of request = file_of request ∷ words_of request ∷ inputs_of request ∷ resume_of request ∷ []

-- the file that a request writes
abbrev pub out_of : Request → Option Name
out_of (Request.Compile file out composition) = Some out.now
out_of (Request.Run settings) = None
out_of (Request.Seeds seeds) = option_copied seeds.keep
out_of (Request.Replay file composition json) = None
out_of (Request.ReplayStates file composition shown) = None
out_of (Request.ReplayLog file composition json) = None
out_of (Request.ReplayLogStates file composition shown) = None
out_of (Request.ReplayInvariants file composition json) = None
out_of (Request.ReplayCoverage file composition log json) = None
out_of (Request.Log file composition) = None
out_of (Request.LogByLog file composition) = None
out_of (Request.Monitor file composition) = None
out_of (Request.MonitorJson file composition) = None
out_of (Request.StrictMonitor file composition json) = None
out_of (Request.Watch file compositions first counts json) = None
out_of (Request.Chart file composition selection) = None
out_of (Request.Graph file composition) = None
out_of (Request.Check file compositions) = None
out_of (Request.Dump file) = None
out_of (Request.Explain topic) = None
out_of Request.Library = None

-- a log, or a list
abbrev pub name_by : Bool → Name
name_by true = codes "log"
name_by false = codes "list"

-- what stands on standard input
abbrev pub input_name : Request → Name
input_name (Request.Replay file composition json) = codes "list"
input_name (Request.ReplayStates file composition shown) = codes "list"
input_name (Request.Log file composition) = codes "list"
input_name (Request.ReplayLog file composition json) = codes "log"
input_name (Request.ReplayLogStates file composition shown) = codes "log"
input_name (Request.ReplayInvariants file composition json) = codes "log"
input_name (Request.ReplayCoverage file composition log json) = name_by log
input_name (Request.LogByLog file composition) = codes "log"
input_name (Request.Monitor file composition) = codes "log"
input_name (Request.MonitorJson file composition) = codes "log"
input_name (Request.StrictMonitor file composition json) = codes "log"
input_name (Request.Watch file compositions first counts json) = codes "stream"
input_name (Request.Chart file composition selection) = codes "log"
input_name (Request.Graph file composition) = codes "log"
input_name (Request.Run settings) = codes "log"
input_name (Request.Seeds seeds) = codes "log"
input_name (Request.Check file compositions) = codes "log"
input_name (Request.Compile file out composition) = codes "log"
input_name (Request.Dump file) = codes "log"
input_name (Request.Explain topic) = codes "log"
input_name Request.Library = codes "log"

-- a log does, unless it is a list
abbrev pub stands_log : Request → Bool
stands_log request = not (bytes_eq (input_name request) (codes "list"))

-- ---- places

abbrev pub refusal_place : Refusal → Place
refusal_place (Refusal.BadByte line) = Place.Source line
refusal_place (Refusal.Syntax line) = Place.Source line
refusal_place (Refusal.TooDeep line) = Place.Source line
refusal_place (Refusal.DuplicateName line) = Place.Source line
refusal_place (Refusal.UnknownName line) = Place.Source line
refusal_place (Refusal.TypeMismatch line) = Place.Source line
refusal_place (Refusal.BadSignature line) = Place.Source line
refusal_place (Refusal.NoProposal line) = Place.Source line
refusal_place (Refusal.TooMany line) = Place.Source line
refusal_place (Refusal.TooWide line) = Place.Source line
refusal_place (Refusal.ArgMismatch i) = Place.Composition
refusal_place (Refusal.CrashName i) = Place.Composition
refusal_place (Refusal.Clash i j name) = Place.Composition
refusal_place (Refusal.HiddenUnknown name) = Place.Composition
refusal_place (Refusal.StartFault i fault) = Place.Composition
refusal_place Refusal.NoComposition = Place.Missing
refusal_place Refusal.TextTooLong = Place.Nowhere
refusal_place Refusal.OutOfMemory = Place.Nowhere

-- of a list or a log that was heard
abbrev pub heard_place : LogErr → Place
heard_place (LogErr.NotJson line) = Place.Input line
heard_place (LogErr.BadEntry line) = Place.Input line
heard_place (LogErr.WrongOwner line) = Place.Input line
heard_place (LogErr.Diverges line) = Place.Input line
heard_place LogErr.AfterEnd = Place.BehindEnd
heard_place LogErr.NoEnd = Place.Nowhere
heard_place LogErr.Io = Place.Nowhere
heard_place LogErr.OutOfMemory = Place.Nowhere

-- of the log from which a run was to go on
abbrev pub resumed_place : LogErr → Place
resumed_place (LogErr.NotJson line) = Place.Log line
resumed_place (LogErr.BadEntry line) = Place.Log line
resumed_place (LogErr.WrongOwner line) = Place.Log line
resumed_place (LogErr.Diverges line) = Place.Log line
resumed_place LogErr.AfterEnd = Place.BehindLogEnd
resumed_place LogErr.NoEnd = Place.Nowhere
resumed_place LogErr.Io = Place.Nowhere
resumed_place LogErr.OutOfMemory = Place.Nowhere

-- the number of the line with the entry of this index; no text has more lines
abbrev pub line_of_entry : ℕ → ℕ
line_of_entry i = min (i + 1) (2 ^ 64 - 1)

abbrev pub place_of : Failure → Place
place_of (Failure.Refused r) = refusal_place r
place_of (Failure.List e) = heard_place e
place_of (Failure.RunLog e) = resumed_place e
place_of (Failure.BadInput i) = Place.Action i
place_of (Failure.BadWords line) = Place.Words line
place_of (Failure.BadLog i) = Place.Log (line_of_entry i)
place_of Failure.SpecHasInternal = Place.Unseen
place_of (Failure.Object e) = Place.Nowhere
place_of Failure.SourceWanted = Place.Nowhere
place_of Failure.TooManyTurns = Place.Nowhere
place_of Failure.Threads = Place.Nowhere
place_of Failure.EndedByFault = Place.Nowhere
place_of Failure.Io = Place.Nowhere
place_of Failure.OutOfMemory = Place.Nowhere
