-- What is printed of a run that did not come to an end: a code and its details.
use Rattle.std.specs.Prelude.{ℕ, List, [], ◌++◌, codes}
use Rattle.std.specs.Fmt.{decimal}
use Rattle.std.specs.String.{string_bytes}
use Rattle.ioa_arithmetic.specs.Arithmetic.{fault_number}
use Rattle.ioa_lex.specs.declared.refusal.Refusal.{Refusal}
use Rattle.ioa_device.specs.declared.failure.LogErr.{LogErr}
use Rattle.ioa_bytes.specs.declared.failure.ObjErr.{ObjErr}
use Rattle.ioa_serving.specs.declared.failure.Failure.{Failure}
use Rattle.ioa_request.specs.Codes.{spelling}
use Rattle.ioa_serving.specs.FailureCodes.{failure_code}

abbrev pub on_line : ℕ → List ℕ
on_line line = codes " line " ++ decimal line

abbrev pub refusal_details : Refusal → List ℕ
refusal_details Refusal.TextTooLong = []
refusal_details (Refusal.BadByte line) = on_line line
refusal_details (Refusal.Syntax line) = on_line line
refusal_details (Refusal.TooDeep line) = on_line line
refusal_details (Refusal.DuplicateName line) = on_line line
refusal_details (Refusal.UnknownName line) = on_line line
refusal_details (Refusal.TypeMismatch line) = on_line line
refusal_details (Refusal.BadSignature line) = on_line line
refusal_details (Refusal.NoProposal line) = on_line line
refusal_details (Refusal.TooMany line) = on_line line
refusal_details (Refusal.TooWide line) = on_line line
refusal_details (Refusal.ArgMismatch i) = codes " component " ++ decimal i
refusal_details (Refusal.CrashName i) = codes " component " ++ decimal i
refusal_details (Refusal.Clash i j name) =
    codes " components " ++ (decimal i ++ (codes " and " ++ (decimal j ++ (codes " on " ++ string_bytes name))))
refusal_details (Refusal.HiddenUnknown name) = codes " " ++ string_bytes name
refusal_details (Refusal.StartFault i fault) =
    codes " component " ++ (decimal i ++ (codes " fault " ++ decimal (fault_number fault)))
refusal_details Refusal.NoComposition = []
refusal_details Refusal.OutOfMemory = []

abbrev pub object_details : ObjErr → List ℕ
object_details ObjErr.Magic = []
object_details ObjErr.Version = []
object_details ObjErr.Truncated = []
object_details ObjErr.Trailing = []
object_details (ObjErr.BadTable byte) = codes " byte " ++ decimal byte
object_details (ObjErr.BadCode part at) = codes " part " ++ (decimal part ++ (codes " at " ++ decimal at))
object_details ObjErr.Clash = []
object_details ObjErr.OutOfMemory = []

abbrev pub log_details : LogErr → List ℕ
log_details (LogErr.NotJson line) = on_line line
log_details (LogErr.BadEntry line) = on_line line
log_details (LogErr.WrongOwner line) = on_line line
log_details (LogErr.Diverges line) = on_line line
log_details LogErr.NoEnd = []
log_details LogErr.AfterEnd = []
log_details LogErr.Io = []
log_details LogErr.OutOfMemory = []

abbrev pub failure_details : Failure → List ℕ
failure_details (Failure.Refused refusal) = refusal_details refusal
failure_details (Failure.Object e) = object_details e
failure_details Failure.SourceWanted = []
failure_details (Failure.List e) = log_details e
failure_details Failure.SpecHasInternal = []
failure_details (Failure.BadWords n) = on_line n
failure_details Failure.TooManyTurns = []
failure_details (Failure.BadInput i) = codes " index " ++ decimal i
failure_details Failure.Threads = []
failure_details (Failure.BadLog i) = codes " index " ++ decimal i
failure_details Failure.EndedByFault = []
failure_details (Failure.RunLog e) = log_details e
failure_details Failure.Io = []
failure_details Failure.OutOfMemory = []

abbrev pub failure_text : Failure → List ℕ
failure_text failure = spelling (failure_code failure) ++ failure_details failure
