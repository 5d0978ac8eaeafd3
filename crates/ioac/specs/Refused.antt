-- What is told, where an explanation is asked for, of a request that was not served: the line by which an editor jumps to what is wrong, and below it that line;
-- then what its code means.
use Rattle.std.specs.Prelude.{◌≡◌, ◌≢◌, ◌⊎◌, ◌++◌, ◌∷◌, ◌+◌, ℕ, Bool, true, false, List, Option, Some, None, length}
use Rattle.ioa_value.specs.Actions.{Name}
use Rattle.ioa_value.specs.Table.{Table}
use Rattle.ioa_system.specs.Logs.{Logged}
use Rattle.ioa_device.specs.declared.failure.LogErr.{LogErr}
use Rattle.ioa_log.specs.Begun.{IsBegun}
use Rattle.ioa_account.specs.Lines.{line_of_action}
use Rattle.ioa_causes.specs.Worded.{wording}
use Rattle.ioa_request.specs.declared.code.Code.{Code}
use Rattle.ioa_request.specs.declared.explanation.Explanation.{Explanation}
use Rattle.ioa_request.specs.declared.request.Request.{Request}
use Rattle.ioa_request.specs.declared.topic.Topic.{Topic}
use Rattle.ioa_request.specs.Explained.{explanation_text}
use Rattle.ioa_serving.specs.declared.failure.Failure.{Failure}
use Rattle.ioa_serving.specs.FailureCodes.{failure_code}
use Rattle.ioac.specs.declared.remarks.places.Place.{Place}
use Rattle.ioac.specs.Places.{file_of, input_name, inputs_of, place_of, resume_of, stands_log, words_of}
use Rattle.ioac.specs.Heard.{AreHeardWords}
use Rattle.ioac.specs.Composed.{IsMissingFrom, IsRefusedAt}
use Rattle.ioac.specs.UnseenLines.{IsUnseenAt, line_text}
use Rattle.ioac.specs.Worded.{TellsCause}
use Rattle.ioac.specs.Remarks.{IsDifference, IsLoaded, flat_text, jump_text}

-- ---- one line

-- such a line, with words of which this holds, by the line and the bytes
abbrev pub TellsLine : (ℕ → List ℕ → List ℕ → Type 0) → Name → ℕ → Code → List ℕ → List ℕ → List ℕ → Type 0
TellsLine tells file n code bytes before after = (words : List ℕ) × tells n bytes words × (after ≡ before ++ jump_text file n code words bytes)

-- of a file, as it may be now; nothing, where none is named
abbrev pub TellsFileLine : (ℕ → List ℕ → List ℕ → Type 0) → (Name → List ℕ → Type 0) → (Name → Type 0) → Option Name → ℕ → Code → List ℕ → List ℕ → Type 0
TellsFileLine tells holds lacks None n code before after = after ≡ before
TellsFileLine tells holds lacks (Some file) n code before after = (bytes : List ℕ) × IsLoaded holds lacks file bytes × TellsLine tells file n code bytes before after

-- of a source, as it may be now, with words that tell the failure's cause; nothing, where none is named
abbrev pub TellsSourceLine : (Name → List ℕ → Type 0) → (Name → Type 0) → Option Name → ℕ → Failure → List ℕ → List ℕ → Type 0
TellsSourceLine holds lacks None n e before after = after ≡ before
TellsSourceLine holds lacks (Some file) n e before after =
    (bytes words : List ℕ) × IsLoaded holds lacks file bytes × TellsCause e bytes words × (after ≡ before ++ jump_text file n (failure_code e) words bytes)

-- of the line of a script that holds the action of this index; nothing, where none does
abbrev pub TellsActionOn : (ℕ → List ℕ → List ℕ → Type 0) → Name → Option ℕ → Code → List ℕ → List ℕ → List ℕ → Type 0
TellsActionOn tells file None code script before after = after ≡ before
TellsActionOn tells file (Some n) code script before after = TellsLine tells file n code script before after

abbrev pub TellsAction : (ℕ → List ℕ → List ℕ → Type 0) → (Name → List ℕ → Type 0) → (Name → Type 0) → Option Name → ℕ → Code → List ℕ → List ℕ → Type 0
TellsAction tells holds lacks None i code before after = after ≡ before
TellsAction tells holds lacks (Some file) i code before after =
    (script : List ℕ) × IsLoaded holds lacks file script × TellsActionOn tells file (line_of_action script i) code script before after

-- the words of a line of the file of words are those that the code has in general, those of a line of a log or of a list tell what is wrong with it
abbrev pub TellsGeneral : Failure → ℕ → List ℕ → List ℕ → Type 0
TellsGeneral e n bytes words = words ≡ wording (failure_code e)

abbrev pub TellsIt : (Name → List ℕ → Type 0) → (Name → Type 0) → Request → Failure → Bool → ℕ → List ℕ → List ℕ → Type 0
TellsIt holds lacks request e is_log n bytes words = AreHeardWords holds lacks e request is_log bytes n words

-- of a line of standard input, by what stands there, or of a run's script
abbrev pub TellsInput : (Name → List ℕ → Type 0) → (Name → Type 0) → Request → Failure → Option Name → List ℕ → ℕ → List ℕ → List ℕ → Type 0
TellsInput holds lacks request e None input n before after =
    TellsLine (TellsIt holds lacks request e (stands_log request)) (input_name request) n (failure_code e) input before after
TellsInput holds lacks request e (Some file) input n before after = TellsFileLine (TellsIt holds lacks request e false) holds lacks (Some file) n (failure_code e) before after

-- the first line behind a log's end, whose entries stand before it; or none is told
abbrev pub IsBehindEnd : List ℕ → Option ℕ → Type 0
IsBehindEnd log None = Unit {0}
IsBehindEnd log (Some n) = (types : Table) × (begun : Logged) × IsBegun types log (length log) begun × (n ≡ length begun.entries + 2)

abbrev pub TellsBehindEnd : (ℕ → List ℕ → List ℕ → Type 0) → Name → Code → List ℕ → List ℕ → List ℕ → Type 0
TellsBehindEnd tells file code log before after = (line : Option ℕ) × IsBehindEnd log line × TellsActionOn tells file line code log before after

abbrev pub TellsBehindFileEnd : (ℕ → List ℕ → List ℕ → Type 0) → (Name → List ℕ → Type 0) → (Name → Type 0) → Option Name → Code → List ℕ → List ℕ → Type 0
TellsBehindFileEnd tells holds lacks None code before after = after ≡ before
TellsBehindFileEnd tells holds lacks (Some file) code before after = (log : List ℕ) × IsLoaded holds lacks file log × TellsBehindEnd tells file code log before after

-- ---- what no line of the source itself breaks

-- of a composition that the bytes declare the line of the component, or of the hidden name, at which it is refused, and how; nothing, where it is not so by now
abbrev pub TellsCompositionIn : Request → Failure → Name → List ℕ → List ℕ → List ℕ → Type 0
TellsCompositionIn request e file bytes before after =
    (after ≡ before) ⊎ ((n : ℕ) × (words : List ℕ) × IsRefusedAt request bytes e n words × (after ≡ before ++ jump_text file n (failure_code e) words bytes))

abbrev pub TellsComposition : (Name → List ℕ → Type 0) → (Name → Type 0) → Option Name → Request → Failure → List ℕ → List ℕ → Type 0
TellsComposition holds lacks None request e before after = after ≡ before
TellsComposition holds lacks (Some file) request e before after = (bytes : List ℕ) × IsLoaded holds lacks file bytes × TellsCompositionIn request e file bytes before after

-- that there is none, and which there are; nothing, where the file is refused by now
abbrev pub TellsMissingIn : Request → Code → Name → List ℕ → List ℕ → List ℕ → Type 0
TellsMissingIn request code file bytes before after = (after ≡ before) ⊎ ((words : List ℕ) × IsMissingFrom request bytes words × (after ≡ before ++ flat_text file code words))

abbrev pub TellsMissing : (Name → List ℕ → Type 0) → (Name → Type 0) → Option Name → Request → Code → List ℕ → List ℕ → Type 0
TellsMissing holds lacks None request code before after = after ≡ before
TellsMissing holds lacks (Some file) request code before after = (bytes : List ℕ) × IsLoaded holds lacks file bytes × TellsMissingIn request code file bytes before after

-- what the composition does unseen, on the line that names it; nothing, where it is not so by now
abbrev pub TellsUnseenIn : Request → Code → Name → List ℕ → List ℕ → List ℕ → Type 0
TellsUnseenIn request code file bytes before after =
    (after ≡ before) ⊎ ((line : Option ℕ) × (words : List ℕ) × IsUnseenAt request bytes line words × (after ≡ before ++ line_text file line code words bytes))

abbrev pub TellsUnseen : (Name → List ℕ → Type 0) → (Name → Type 0) → Option Name → Request → Code → List ℕ → List ℕ → Type 0
TellsUnseen holds lacks None request code before after = after ≡ before
TellsUnseen holds lacks (Some file) request code before after = (bytes : List ℕ) × IsLoaded holds lacks file bytes × TellsUnseenIn request code file bytes before after

-- ---- by the place

abbrev pub TellsAt : (Name → List ℕ → Type 0) → (Name → Type 0) → Request → List ℕ → Failure → Place → List ℕ → List ℕ → Type 0
TellsAt holds lacks request input e Place.Nowhere before after = after ≡ before
TellsAt holds lacks request input e (Place.Source n) before after = TellsSourceLine holds lacks (file_of request) n e before after
TellsAt holds lacks request input e (Place.Words n) before after = TellsFileLine (TellsGeneral e) holds lacks (words_of request) n (failure_code e) before after
TellsAt holds lacks request input e (Place.Log n) before after = TellsFileLine (TellsIt holds lacks request e true) holds lacks (resume_of request) n (failure_code e) before after
TellsAt holds lacks request input e (Place.Action i) before after = TellsAction (TellsIt holds lacks request e false) holds lacks (inputs_of request) i (failure_code e) before after
TellsAt holds lacks request input e (Place.Input n) before after = TellsInput holds lacks request e (inputs_of request) input n before after
TellsAt holds lacks request input e Place.BehindEnd before after = TellsBehindEnd (TellsIt holds lacks request e true) (input_name request) (failure_code e) input before after
TellsAt holds lacks request input e Place.BehindLogEnd before after = TellsBehindFileEnd (TellsIt holds lacks request e true) holds lacks (resume_of request) (failure_code e) before after
TellsAt holds lacks request input e Place.Composition before after = TellsComposition holds lacks (file_of request) request e before after
TellsAt holds lacks request input e Place.Missing before after = TellsMissing holds lacks (file_of request) request (failure_code e) before after
TellsAt holds lacks request input e Place.Unseen before after = TellsUnseen holds lacks (file_of request) request (failure_code e) before after

-- where what the failure tells of stands, and behind that, and other words, what its code means
abbrev pub IsToldAt : (Name → List ℕ → Type 0) → (Name → Type 0) → Request → List ℕ → Failure → List ℕ → List ℕ → Type 0
IsToldAt holds lacks request input e before text =
    (told : List ℕ) × TellsAt holds lacks request input e (place_of e) before told
    × ((rest : List ℕ) × (x : Explanation) × (x.topic ≡ Topic.Code (failure_code e)) × (text ≡ told ++ (rest ++ (10 ∷ explanation_text x))))

-- What is told of a failure: of a log that differs how it does; of others, but that no file could be read or written, where what they tell of stands.
pub record IsFailureRemark (holds : Name → List ℕ → Type 0) (lacks : Name → Type 0) (request : Request) (input : List ℕ) (e : Failure) (before text : List ℕ) : Type 0 where
  pub differs : (n : ℕ) → e ≡ Failure.List (LogErr.Diverges n) → IsDifference holds lacks request input n before text
  pub told : ((n : ℕ) → e ≡ Failure.List (LogErr.Diverges n) → ⊥) → e ≢ Failure.Io → IsToldAt holds lacks request input e before text
