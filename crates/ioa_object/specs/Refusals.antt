-- Why bytes are not the object of a program.
use Rattle.std.specs.Prelude.{◌≡◌, ◌≢◌, ◌⊎◌, ℕ, Bool, true, false, ◌≤◌, List, [], ◌∷◌, ◌++◌, length, Err, Result, IsErrOf}
use Rattle.ioa_compile.specs.Programs.{Prog}
use Rattle.ioa_compile.specs.Tables.{AreRight, tabled}
use Rattle.ioa_tree.specs.Components.{Compatible}
use Rattle.ioa_object.specs.Objects.{IsUnder}
use Rattle.ioa_object.specs.Reading.{read}
use Rattle.ioa_object.specs.Spelling.{mark, under}
use Rattle.ioa_object.specs.Versions.{MayStand, loops_in, version_byte}
use Rattle.ioa_bytes.specs.declared.failure.ObjErr.{ObjErr}
use Rattle.ioa_bytes.specs.declared.failure.ObjErr.TheVariants as errors

-- the first four bytes are not all there, or others
abbrev pub HasNoMark : List ℕ → Type 0
HasNoMark bytes = (rest : List ℕ) → bytes ≢ mark ++ rest

-- they are there, and behind them a byte that is no version's
abbrev pub HasUnknownVersion : List ℕ → Type 0
HasUnknownVersion bytes = (v : ℕ) × (rest : List ℕ) × ((loops : Bool) → v ≢ version_byte loops) × (bytes ≡ mark ++ (v ∷ rest))

-- the whole of a program without loops, under the version with loops
abbrev pub HasNeedlessVersion : List ℕ → Type 0
HasNeedlessVersion bytes = (p : Prog) × IsUnder true bytes p × (loops_in p ≡ false)

abbrev pub HasOtherVersion : List ℕ → Type 0
HasOtherVersion bytes = HasUnknownVersion bytes ⊎ HasNeedlessVersion bytes

-- a program under a version, and more bytes behind it
abbrev pub GoesOn : List ℕ → Type 0
GoesOn bytes = (loops : Bool) × (front more : List ℕ) × (p : Prog) × IsUnder loops front p × (more ≢ []) × (bytes ≡ front ++ more)

-- at least the mark, and not all, of a program under a version
abbrev pub IsCut : List ℕ → Type 0
IsCut bytes = (loops : Bool) × (more : List ℕ) × (p : Prog) × IsUnder loops (bytes ++ more) p × (more ≢ []) × (4 ≤ length bytes)

-- the bytes begin with tables that are right, under a version, but two of their components clash
abbrev pub Clashes : List ℕ → Type 0
Clashes bytes =
    (loops : Bool) × (p : Prog) × (rest : List ℕ) × AreRight p × MayStand loops (loops_in p) × (bytes ≡ under loops p ++ rest) × (Compatible (tabled p) → ⊥)

-- this is why: of what may stand at each place, the first thing that is wrong, where the bytes end inside an item, or an item is wrong
abbrev pub IsRefused : List ℕ → ObjErr → Type 0
IsRefused bytes errors.Magic = HasNoMark bytes
IsRefused bytes errors.Version = HasOtherVersion bytes
IsRefused bytes errors.Truncated = read bytes ≡ Err errors.Truncated
IsRefused bytes errors.Trailing = GoesOn bytes
IsRefused bytes (errors.BadTable byte) = read bytes ≡ Err (errors.BadTable byte)
IsRefused bytes (errors.BadCode part at) = read bytes ≡ Err (errors.BadCode part at)
IsRefused bytes errors.Clash = Clashes bytes
IsRefused bytes errors.OutOfMemory = Unit {0}

-- the answer is this refusal, unless memory ran out
abbrev pub IsRefusal : {A : Type 0} → Result A ObjErr → ObjErr → Type 0
IsRefusal result e = IsErrOf result e ⊎ IsErrOf result errors.OutOfMemory
