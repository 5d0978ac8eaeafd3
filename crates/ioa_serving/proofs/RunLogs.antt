-- Why the bytes of a file are no log, from what a reading of logs says.
use Rattle.std.proofs.Common.{ℕ, List, Some, Err, refl}
use Rattle.std.specs.Result.{IsErrOf}
use Rattle.ioa_value.specs.Actions.{Name}
use Rattle.ioa_value.specs.Table.{Table}
use Rattle.ioa_device.specs.declared.failure.LogErr.{LogErr}
use Rattle.ioa_device.specs.Failing.{IsTextErr}
use Rattle.ioa_log.specs.LogTexts.{GoesOnAt, HasNoEnd, NoEntryAt, NotJsonAt}
use Rattle.ioa_serving.specs.Resuming.{IsLogless, unread_log}

pub unread_so : (holds : Name → List ℕ → Type 0) (lacks : Name → Type 0) (types : Table) (file : Name) (text : List ℕ) (x : LogErr) {T : Type 0} → holds file text → IsTextErr x
    → ((n : ℕ) → IsErrOf {T = T} (Err x) (LogErr.NotJson n) → NotJsonAt types text n)
    → ((n : ℕ) → IsErrOf {T = T} (Err x) (LogErr.BadEntry n) → NoEntryAt types text n)
    → (IsErrOf {T = T} (Err x) LogErr.AfterEnd → (n : ℕ) × GoesOnAt types text n)
    → (IsErrOf {T = T} (Err x) LogErr.NoEnd → HasNoEnd types text)
    → IsLogless holds lacks types (Some file) (unread_log x)
unread_so holds lacks types file text (LogErr.NotJson n) held only json bad after none = (text, held, json n refl)
unread_so holds lacks types file text (LogErr.BadEntry n) held only json bad after none = (text, held, bad n refl)
unread_so holds lacks types file text LogErr.NoEnd held only json bad after none = (text, held, none refl)
unread_so holds lacks types file text LogErr.AfterEnd held only json bad after none = (text, held, after refl)
unread_so holds lacks types file text (LogErr.WrongOwner n) held only json bad after none = absurd only
unread_so holds lacks types file text (LogErr.Diverges n) held only json bad after none = absurd only
unread_so holds lacks types file text LogErr.Io held only json bad after none = tt
unread_so holds lacks types file text LogErr.OutOfMemory held only json bad after none = tt
