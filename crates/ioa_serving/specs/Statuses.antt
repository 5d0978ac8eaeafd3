-- The exit statuses: their numbers, and which one a run has.
use Rattle.std.specs.Prelude.{ℕ, Bool, true, false, Option, Some, None}
use Rattle.ioa_lex.specs.declared.refusal.Refusal.{Refusal}
use Rattle.ioa_tree.specs.Runs.{Ending, done, not_an_action_at, not_enabled_at, fault_at}
use Rattle.ioa_device.specs.declared.failure.LogErr.{LogErr}
use Rattle.ioa_bytes.specs.declared.failure.ObjErr.{ObjErr}
use Rattle.ioa_serving.specs.declared.failure.Failure.{Failure}
use Rattle.ioa_serving.specs.declared.status.Status.{Status}
use Rattle.ioa_serving.specs.Logs.{Found, broken, unbroken}

abbrev pub number_of : Status → ℕ
number_of Status.Done = 0
number_of Status.Refused = 1
number_of Status.BadCommandLine = 2
number_of Status.Faulted = 3
number_of Status.NotAccepted = 4
number_of Status.Unable = 5

-- of a list or a log that was replayed to this end
abbrev pub ending_status : Ending → Status
ending_status (done n) = Status.Done
ending_status (not_an_action_at i) = Status.NotAccepted
ending_status (not_enabled_at i) = Status.NotAccepted
ending_status (fault_at c f i) = Status.Faulted

-- of a log in which this is found
abbrev pub found_status : Found → Status
found_status (broken b) = Status.NotAccepted
found_status (unbroken end) = ending_status end

-- of a monitor that gives this answer
abbrev pub answer_status : Option Ending → Status
answer_status None = Status.Done
answer_status (Some end) = Status.NotAccepted

-- of a watch in which something is refused, or nothing
abbrev pub watch_status : Bool → Status
watch_status true = Status.NotAccepted
watch_status false = Status.Done

-- of a source that is refused
abbrev pub refusal_status : Refusal → Status
refusal_status Refusal.TextTooLong = Status.Refused
refusal_status (Refusal.BadByte line) = Status.Refused
refusal_status (Refusal.Syntax line) = Status.Refused
refusal_status (Refusal.TooDeep line) = Status.Refused
refusal_status (Refusal.DuplicateName line) = Status.Refused
refusal_status (Refusal.UnknownName line) = Status.Refused
refusal_status (Refusal.TypeMismatch line) = Status.Refused
refusal_status (Refusal.BadSignature line) = Status.Refused
refusal_status (Refusal.NoProposal line) = Status.Refused
refusal_status (Refusal.TooMany line) = Status.Refused
refusal_status (Refusal.TooWide line) = Status.Refused
refusal_status (Refusal.ArgMismatch i) = Status.Refused
refusal_status (Refusal.CrashName i) = Status.Refused
refusal_status (Refusal.Clash i j name) = Status.Refused
refusal_status (Refusal.HiddenUnknown name) = Status.Refused
refusal_status (Refusal.StartFault i fault) = Status.Refused
refusal_status Refusal.NoComposition = Status.Refused
refusal_status Refusal.OutOfMemory = Status.Unable

-- of an object that is refused
abbrev pub object_status : ObjErr → Status
object_status ObjErr.Magic = Status.Refused
object_status ObjErr.Version = Status.Refused
object_status ObjErr.Truncated = Status.Refused
object_status ObjErr.Trailing = Status.Refused
object_status (ObjErr.BadTable byte) = Status.Refused
object_status (ObjErr.BadCode part at) = Status.Refused
object_status ObjErr.Clash = Status.Refused
object_status ObjErr.OutOfMemory = Status.Unable

-- of a list or a log that is refused
abbrev pub log_status : LogErr → Status
log_status (LogErr.NotJson line) = Status.NotAccepted
log_status (LogErr.BadEntry line) = Status.NotAccepted
log_status (LogErr.WrongOwner line) = Status.NotAccepted
log_status (LogErr.Diverges line) = Status.NotAccepted
log_status LogErr.NoEnd = Status.NotAccepted
log_status LogErr.AfterEnd = Status.NotAccepted
log_status LogErr.Io = Status.Unable
log_status LogErr.OutOfMemory = Status.Unable

abbrev pub failure_status : Failure → Status
failure_status (Failure.Refused refusal) = refusal_status refusal
failure_status (Failure.Object e) = object_status e
failure_status Failure.SourceWanted = Status.BadCommandLine
failure_status (Failure.List e) = log_status e
failure_status Failure.SpecHasInternal = Status.NotAccepted
failure_status (Failure.BadWords n) = Status.BadCommandLine
failure_status Failure.TooManyTurns = Status.BadCommandLine
failure_status (Failure.BadInput i) = Status.NotAccepted
failure_status Failure.Threads = Status.Unable
failure_status (Failure.BadLog i) = Status.NotAccepted
failure_status Failure.EndedByFault = Status.NotAccepted
failure_status (Failure.RunLog e) = log_status e
failure_status Failure.Io = Status.Unable
failure_status Failure.OutOfMemory = Status.Unable
