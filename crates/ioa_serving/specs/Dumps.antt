-- What comes of a request to dump an object.
use Rattle.std.specs.Prelude.{ℕ, List, Option, take}
use Rattle.std.specs.Io.KnownBytes.{Appends, Keeps}
use Rattle.ioa_compile.specs.Programs.{Prog}
use Rattle.ioa_object.specs.Objects.{IsObject}
use Rattle.ioa_object.specs.Refusals as objects
use Rattle.ioa_dump.specs.Dumps.{dump}
use Rattle.ioa_serving.specs.declared.failure.Failure.{Failure}
use Rattle.ioa_serving.specs.Failing.{IsDeviceErr}

-- the bytes are the object of a program, whose dump is written
abbrev pub IsDumped : List ℕ → Option (List ℕ) → Option (List ℕ) → Type 0
IsDumped bytes before after = (p : Prog) × IsObject bytes p × Appends before after (dump p)

-- a beginning of its dump is
abbrev pub BeginsDump : List ℕ → Option (List ℕ) → Option (List ℕ) → Type 0
BeginsDump bytes before after = (p : Prog) × (k : ℕ) × IsObject bytes p × Appends before after (take k (dump p))

-- the bytes are no object, a source neither, and nothing was written; or the device failed, and a beginning of the dump was. Memory may
-- be short at any time
abbrev pub IsUndumped : List ℕ → Type 0 → Option (List ℕ) → Option (List ℕ) → Failure → Type 0
IsUndumped bytes failed before after (Failure.Refused r) = ⊥
IsUndumped bytes failed before after (Failure.Object e) = objects.IsRefused bytes e × Keeps before after
IsUndumped bytes failed before after Failure.SourceWanted = ⊥
IsUndumped bytes failed before after (Failure.List e) = IsDeviceErr (failed × BeginsDump bytes before after) e
IsUndumped bytes failed before after Failure.SpecHasInternal = ⊥
IsUndumped bytes failed before after (Failure.BadWords n) = ⊥
IsUndumped bytes failed before after Failure.TooManyTurns = ⊥
IsUndumped bytes failed before after (Failure.BadInput i) = ⊥
IsUndumped bytes failed before after Failure.Threads = ⊥
IsUndumped bytes failed before after (Failure.BadLog i) = ⊥
IsUndumped bytes failed before after Failure.EndedByFault = ⊥
IsUndumped bytes failed before after (Failure.RunLog e) = ⊥
IsUndumped bytes failed before after Failure.Io = ⊥
IsUndumped bytes failed before after Failure.OutOfMemory = Keeps before after
