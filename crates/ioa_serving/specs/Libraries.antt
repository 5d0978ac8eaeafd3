-- What is written of the library of protocols.
use Rattle.std.specs.Prelude.{ℕ, List, Option, take}
use Rattle.std.specs.Io.KnownBytes.{Appends}
use Rattle.ioa_links.specs.Library.{library_text}
use Rattle.ioa_serving.specs.declared.failure.Failure.{Failure}
use Rattle.ioa_serving.specs.Failing.{IsDeviceErr}

-- the device failed, and a beginning of the library's text was written; nothing else is refused
abbrev pub IsUnlisted : Type 0 → Option (List ℕ) → Option (List ℕ) → Failure → Type 0
IsUnlisted failed before after (Failure.Refused r) = ⊥
IsUnlisted failed before after (Failure.Object e) = ⊥
IsUnlisted failed before after Failure.SourceWanted = ⊥
IsUnlisted failed before after (Failure.List e) = IsDeviceErr (failed × ((k : ℕ) × Appends before after (take k library_text))) e
IsUnlisted failed before after Failure.SpecHasInternal = ⊥
IsUnlisted failed before after (Failure.BadWords n) = ⊥
IsUnlisted failed before after Failure.TooManyTurns = ⊥
IsUnlisted failed before after (Failure.BadInput i) = ⊥
IsUnlisted failed before after Failure.Threads = ⊥
IsUnlisted failed before after (Failure.BadLog i) = ⊥
IsUnlisted failed before after Failure.EndedByFault = ⊥
IsUnlisted failed before after (Failure.RunLog e) = ⊥
IsUnlisted failed before after Failure.Io = ⊥
IsUnlisted failed before after Failure.OutOfMemory = ⊥
