-- What compiling a source writes: the object of a program that does what the source's hosts do.
use Rattle.std.specs.Prelude.{◌≡◌, ◌⊎◌, true, false, List, Option, ℕ, take}
use Rattle.ioa_value.specs.Actions.{Name}
use Rattle.ioa_tree.specs.Hosts.{Hosted}
use Rattle.ioa_compile.specs.Programs.{Prog}
use Rattle.ioa_compile.specs.Subjects.{Runs, of_hosts}
use Rattle.ioa_device.specs.Devices.{Change, Failed, Untouched, Wrote}
use Rattle.ioa_object.specs.Objects.{IsObject}
use Rattle.ioa_object.specs.Spelling.{mark}
use Rattle.ioa_serving.specs.declared.failure.Failure.{Failure}
use Rattle.ioa_serving.specs.Checks.{ok_line}
use Rattle.ioa_serving.specs.Worlds.{Files}
use Rattle.ioa_serving.specs.Failing.{IsDeviceErr, IsRefusedSource}
use Rattle.ioa_serving.specs.Headline.{IsFileOf, begins_object}

-- the source declares of_hosts, and the bytes are the object of a program of theirs
abbrev pub IsCompiled : List ℕ → Option Name → List ℕ → Type 0
IsCompiled text name object = (h : Hosted) × IsFileOf text name (of_hosts h) × ((p : Prog) × Runs p h × IsObject object p)

-- the source is refused, or the file is an object itself. Memory may be short
abbrev pub IsUncompiled : List ℕ → Option Name → Failure → Type 0
IsUncompiled text name (Failure.Refused r) = (begins_object text ≡ false) × IsRefusedSource text name r
IsUncompiled text name (Failure.Object e) = ⊥
IsUncompiled text name Failure.SourceWanted = begins_object text ≡ true
IsUncompiled text name (Failure.List e) = ⊥
IsUncompiled text name Failure.SpecHasInternal = ⊥
IsUncompiled text name (Failure.BadWords n) = ⊥
IsUncompiled text name Failure.TooManyTurns = ⊥
IsUncompiled text name (Failure.BadInput i) = ⊥
IsUncompiled text name Failure.Threads = ⊥
IsUncompiled text name (Failure.BadLog i) = ⊥
IsUncompiled text name Failure.EndedByFault = ⊥
IsUncompiled text name (Failure.RunLog e) = ⊥
IsUncompiled text name Failure.Io = ⊥
IsUncompiled text name Failure.OutOfMemory = Unit {0}

-- the file may hold a source whose object this is, and it was put in the file `out`
abbrev pub IsSaved : Files → Name → Name → Option Name → Type 0
IsSaved f file out name = (text object : List ℕ) × f.holds file text × IsCompiled text name object × f.places mark out object

-- and `ok` is written
abbrev pub IsMade : Files → Name → Name → Option Name → Change → Type 0
IsMade f file out name output = IsSaved f file out name × Wrote output ok_line

-- No file was changed, and nothing written: a file is not read, the source is refused, or the object is not put in its file. Or the device
-- failed: then the object stands in its file, and a beginning of the line was written. Memory may be short at any time.
abbrev pub IsUnmade : Files → Name → Name → Option Name → Change → Failure → Type 0
IsUnmade f file out name output (Failure.Refused r) =
    ((text : List ℕ) × f.holds file text × IsUncompiled text name (Failure.Refused r)) × f.kept × Untouched output
IsUnmade f file out name output (Failure.Object e) = ⊥
IsUnmade f file out name output Failure.SourceWanted =
    ((text : List ℕ) × f.holds file text × IsUncompiled text name Failure.SourceWanted) × f.kept × Untouched output
IsUnmade f file out name output (Failure.List e) =
    IsDeviceErr (Failed output × IsSaved f file out name × ((k : ℕ) × Wrote output (take k ok_line))) e
IsUnmade f file out name output Failure.SpecHasInternal = ⊥
IsUnmade f file out name output (Failure.BadWords n) = ⊥
IsUnmade f file out name output Failure.TooManyTurns = ⊥
IsUnmade f file out name output (Failure.BadInput i) = ⊥
IsUnmade f file out name output Failure.Threads = ⊥
IsUnmade f file out name output (Failure.BadLog i) = ⊥
IsUnmade f file out name output Failure.EndedByFault = ⊥
IsUnmade f file out name output (Failure.RunLog e) = ⊥
IsUnmade f file out name output Failure.Io =
    (f.lacks file ⊎ (f.blocks mark out × ((text object : List ℕ) × f.holds file text × IsCompiled text name object))) × f.kept × Untouched output
IsUnmade f file out name output Failure.OutOfMemory = f.kept × Untouched output
