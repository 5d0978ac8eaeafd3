-- What is told, in words, of a source that is refused: its cause, or else what the failure's code says in general.
use Rattle.std.specs.Prelude.{◌≡◌, ℕ, List}
use Rattle.ioa_causes.specs.Worded.{TellsRefusal, wording}
use Rattle.ioa_serving.specs.declared.failure.Failure.{Failure}
use Rattle.ioa_serving.specs.FailureCodes.{failure_code}

-- of a source by a failure that names a line of it
abbrev pub TellsCause : Failure → List ℕ → List ℕ → Type 0
TellsCause (Failure.Refused r) text words = TellsRefusal r text words
TellsCause (Failure.List e) text words = words ≡ wording (failure_code (Failure.List e))
TellsCause (Failure.RunLog e) text words = words ≡ wording (failure_code (Failure.RunLog e))
TellsCause (Failure.BadInput i) text words = words ≡ wording (failure_code (Failure.BadInput i))
TellsCause (Failure.BadWords line) text words = words ≡ wording (failure_code (Failure.BadWords line))
TellsCause (Failure.BadLog i) text words = words ≡ wording (failure_code (Failure.BadLog i))
TellsCause (Failure.Object e) text words = words ≡ wording (failure_code (Failure.Object e))
TellsCause Failure.SpecHasInternal text words = words ≡ wording (failure_code Failure.SpecHasInternal)
TellsCause Failure.SourceWanted text words = words ≡ wording (failure_code Failure.SourceWanted)
TellsCause Failure.TooManyTurns text words = words ≡ wording (failure_code Failure.TooManyTurns)
TellsCause Failure.Threads text words = words ≡ wording (failure_code Failure.Threads)
TellsCause Failure.EndedByFault text words = words ≡ wording (failure_code Failure.EndedByFault)
TellsCause Failure.Io text words = words ≡ wording (failure_code Failure.Io)
TellsCause Failure.OutOfMemory text words = words ≡ wording (failure_code Failure.OutOfMemory)
