-- Why no object is made, from the clauses of the parts.
use Rattle.std.proofs.Common.{ℕ, List, Option, Err, inr, refl}
use Rattle.std.specs.Result.{IsErrOf}
use Rattle.ioa_value.specs.Actions.{Name}
use Rattle.ioa_device.specs.Devices.{Change, Untouched}
use Rattle.ioa_object.specs.Spelling.{mark}
use Rattle.ioa_serving.specs.declared.failure.Failure.{Failure}
use Rattle.ioa_serving.specs.declared.store.StoreErr.{StoreErr}
use Rattle.ioa_serving.specs.Compiling.{IsCompiled, IsUncompiled, IsUnmade}
use Rattle.ioa_serving.specs.Worlds.{Files}
use Rattle.ioa_serving.specs.Serving.{failure_of}

-- the source is refused
pub unmade : (f : Files) (file out : Name) (name : Option Name) (output : Change) (text : List ℕ) (e : Failure) → f.holds file text → IsUncompiled text name e → f.kept → Untouched output
    → IsUnmade f file out name output e
unmade f file out name output text (Failure.Refused r) held k same keeps = ((text, held, k), same, keeps)
unmade f file out name output text (Failure.Object e) held k same keeps = absurd k
unmade f file out name output text Failure.SourceWanted held k same keeps = ((text, held, k), same, keeps)
unmade f file out name output text (Failure.List e) held k same keeps = absurd k
unmade f file out name output text Failure.SpecHasInternal held k same keeps = absurd k
unmade f file out name output text (Failure.BadWords n) held k same keeps = absurd k
unmade f file out name output text Failure.TooManyTurns held k same keeps = absurd k
unmade f file out name output text (Failure.BadInput i) held k same keeps = absurd k
unmade f file out name output text Failure.Threads held k same keeps = absurd k
unmade f file out name output text (Failure.BadLog i) held k same keeps = absurd k
unmade f file out name output text Failure.EndedByFault held k same keeps = absurd k
unmade f file out name output text (Failure.RunLog e) held k same keeps = absurd k
unmade f file out name output text Failure.Io held k same keeps = absurd k
unmade f file out name output text Failure.OutOfMemory held k same keeps = (same, keeps)

-- the object is not put in its file
pub unsaved : (f : Files) (file out : Name) (name : Option Name) (output : Change) (text object : List ℕ) (x : StoreErr) {T : Type 0} → f.holds file text → IsCompiled text name object
    → (IsErrOf {T = T} (Err x) StoreErr.Io → f.blocks mark out) → f.kept → Untouched output → IsUnmade f file out name output (failure_of x)
unsaved f file out name output text object StoreErr.Io held compiled io same keeps =
    (inr (io refl, (text, object, held, compiled)), same, keeps)
unsaved f file out name output text object StoreErr.OutOfMemory held compiled io same keeps = (same, keeps)
