-- Which code stands for what was not done.
use Rattle.ioa_lex.specs.declared.refusal.Refusal.{Refusal}
use Rattle.ioa_device.specs.declared.failure.LogErr.{LogErr}
use Rattle.ioa_bytes.specs.declared.failure.ObjErr.{ObjErr}
use Rattle.ioa_request.specs.declared.code.Code.{Code}
use Rattle.ioa_serving.specs.declared.failure.Failure.{Failure}

abbrev pub refusal_code : Refusal → Code
refusal_code Refusal.TextTooLong = Code.E1
refusal_code (Refusal.BadByte line) = Code.E2
refusal_code (Refusal.Syntax line) = Code.E3
refusal_code (Refusal.TooDeep line) = Code.E4
refusal_code (Refusal.DuplicateName line) = Code.E5
refusal_code (Refusal.UnknownName line) = Code.E6
refusal_code (Refusal.TypeMismatch line) = Code.E7
refusal_code (Refusal.BadSignature line) = Code.E8
refusal_code (Refusal.NoProposal line) = Code.E9
refusal_code (Refusal.TooMany line) = Code.E10
refusal_code (Refusal.TooWide line) = Code.E11
refusal_code (Refusal.ArgMismatch i) = Code.E12
refusal_code (Refusal.CrashName i) = Code.E13
refusal_code (Refusal.Clash i j name) = Code.E14
refusal_code (Refusal.HiddenUnknown name) = Code.E15
refusal_code (Refusal.StartFault i fault) = Code.E16
refusal_code Refusal.NoComposition = Code.E17
refusal_code Refusal.OutOfMemory = Code.Memory

abbrev pub object_code : ObjErr → Code
object_code ObjErr.Magic = Code.O1
object_code ObjErr.Version = Code.O2
object_code ObjErr.Truncated = Code.O3
object_code ObjErr.Trailing = Code.O4
object_code (ObjErr.BadTable byte) = Code.O5
object_code (ObjErr.BadCode part at) = Code.O6
object_code ObjErr.Clash = Code.O7
object_code ObjErr.OutOfMemory = Code.Memory

abbrev pub log_code : LogErr → Code
log_code (LogErr.NotJson line) = Code.L1
log_code (LogErr.BadEntry line) = Code.L2
log_code (LogErr.WrongOwner line) = Code.L3
log_code (LogErr.Diverges line) = Code.L4
log_code LogErr.NoEnd = Code.L5
log_code LogErr.AfterEnd = Code.L6
log_code LogErr.Io = Code.L8
log_code LogErr.OutOfMemory = Code.Memory

abbrev pub failure_code : Failure → Code
failure_code (Failure.Refused refusal) = refusal_code refusal
failure_code (Failure.Object e) = object_code e
failure_code Failure.SourceWanted = Code.Object
failure_code (Failure.List e) = log_code e
failure_code Failure.SpecHasInternal = Code.L7
failure_code (Failure.BadWords n) = Code.Words
failure_code Failure.TooManyTurns = Code.N1
failure_code (Failure.BadInput i) = Code.N2
failure_code Failure.Threads = Code.N3
failure_code (Failure.BadLog i) = Code.N4
failure_code Failure.EndedByFault = Code.N5
failure_code (Failure.RunLog e) = log_code e
failure_code Failure.Io = Code.Io
failure_code Failure.OutOfMemory = Code.Memory
