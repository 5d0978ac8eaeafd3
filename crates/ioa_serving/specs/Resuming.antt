-- The log from which a run goes on, and why there is none.
use Rattle.std.specs.Prelude.{◌≡◌, ℕ, List, Option, Some, None, Ok}
use Rattle.ioa_value.specs.Actions.{Name}
use Rattle.ioa_value.specs.Table.{Table}
use Rattle.ioa_compile.specs.Subjects.{State, Subject, its_components, its_starts}
use Rattle.ioa_system.specs.Logs.{Logged}
use Rattle.ioa_device.specs.declared.failure.LogErr.{LogErr}
use Rattle.ioa_log.specs.LogTexts.{GoesOnAt, HasNoEnd, NoEntryAt, NotJsonAt, ReadsLog}
use Rattle.ioa_board.specs.Boards.{Standing}
use Rattle.ioa_board.specs.Resuming.{resumption}
use Rattle.ioa_run.specs.Resuming.{no_log}
use Rattle.ioa_serving.specs.declared.failure.Failure.{Failure}

-- the log is that of a text that the file may hold; without a file it is that of nothing
abbrev pub IsFrom : (Name → List ℕ → Type 0) → Table → Option Name → Logged → Type 0
IsFrom holds types None log = log ≡ no_log
IsFrom holds types (Some file) log = (text : List ℕ) × holds file text × ReadsLog types text log

-- the subject goes on from it: it is the log of a legal history, and ends by its count
abbrev pub IsResumable : Subject → Logged → Type 0
IsResumable x log = (b : Standing (State x)) × (resumption (its_components x) (its_starts x) log ≡ Ok b)

-- ---- why there is none

-- a load of the file may fail, if there is one
abbrev pub LacksFile : (Name → Type 0) → Option Name → Type 0
LacksFile lacks None = ⊥
LacksFile lacks (Some file) = lacks file

-- the text is no log, by this line
abbrev pub IsBadText : Table → List ℕ → LogErr → Type 0
IsBadText types text (LogErr.NotJson n) = NotJsonAt types text n
IsBadText types text (LogErr.BadEntry n) = NoEntryAt types text n
IsBadText types text LogErr.NoEnd = HasNoEnd types text
IsBadText types text LogErr.AfterEnd = (n : ℕ) × GoesOnAt types text n
IsBadText types text (LogErr.WrongOwner n) = ⊥
IsBadText types text (LogErr.Diverges n) = ⊥
IsBadText types text LogErr.Io = ⊥
IsBadText types text LogErr.OutOfMemory = ⊥

-- the file may hold such a text
abbrev pub HasBadText : (Name → List ℕ → Type 0) → Table → Option Name → LogErr → Type 0
HasBadText holds types None e = ⊥
HasBadText holds types (Some file) e = (text : List ℕ) × holds file text × IsBadText types text e

-- what is told of a log that is not read. Its bytes are at hand, so that no device fails
abbrev pub unread_log : LogErr → Failure
unread_log (LogErr.NotJson n) = Failure.RunLog (LogErr.NotJson n)
unread_log (LogErr.BadEntry n) = Failure.RunLog (LogErr.BadEntry n)
unread_log (LogErr.WrongOwner n) = Failure.RunLog (LogErr.WrongOwner n)
unread_log (LogErr.Diverges n) = Failure.RunLog (LogErr.Diverges n)
unread_log LogErr.NoEnd = Failure.RunLog LogErr.NoEnd
unread_log LogErr.AfterEnd = Failure.RunLog LogErr.AfterEnd
unread_log LogErr.Io = Failure.OutOfMemory
unread_log LogErr.OutOfMemory = Failure.OutOfMemory

abbrev pub IsLogless : (Name → List ℕ → Type 0) → (Name → Type 0) → Table → Option Name → Failure → Type 0
IsLogless holds lacks types file (Failure.RunLog e) = HasBadText holds types file e
IsLogless holds lacks types file Failure.Io = LacksFile lacks file
IsLogless holds lacks types file Failure.OutOfMemory = Unit {0}
IsLogless holds lacks types file (Failure.List e) = ⊥
IsLogless holds lacks types file (Failure.Refused r) = ⊥
IsLogless holds lacks types file (Failure.Object e) = ⊥
IsLogless holds lacks types file Failure.SourceWanted = ⊥
IsLogless holds lacks types file (Failure.BadWords n) = ⊥
IsLogless holds lacks types file Failure.SpecHasInternal = ⊥
IsLogless holds lacks types file Failure.TooManyTurns = ⊥
IsLogless holds lacks types file (Failure.BadInput i) = ⊥
IsLogless holds lacks types file Failure.Threads = ⊥
IsLogless holds lacks types file (Failure.BadLog i) = ⊥
IsLogless holds lacks types file Failure.EndedByFault = ⊥
