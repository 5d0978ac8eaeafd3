-- What a call does to its devices, by what they show before it and after it: the bytes that a device holds, or has left to give, where they are known, and how
-- many of its calls failed so far.
use Rattle.std.specs.Prelude.{◌≡◌, ◌⊎◌, ℕ, List, Option, None, Result, IfErr, IsErrOf, OnOk, take}
use Rattle.std.specs.Io.KnownBytes.{Appends, Keeps}
use Rattle.ioa_device.specs.Failing.{FailedOnceAtMost, HasFailed}
use Rattle.ioa_device.specs.declared.failure.LogErr.{LogErr}

-- what a device shows
pub record Seen : Type 0 where
  pub bytes : Option (List ℕ)
  pub failures : ℕ

-- and what it shows before a call and after it
pub record Change : Type 0 where
  pub before : Seen
  pub after : Seen

-- of a device, by what tells its bytes and its failures
abbrev pub seen : {D : Type 0} → (D → Option (List ℕ)) → (D → ℕ) → D → Seen
seen bytes failures device = record { bytes = bytes device; failures = failures device }

abbrev pub change : {D : Type 0} → (D → Option (List ℕ)) → (D → ℕ) → D → D → Change
change bytes failures old new = record { before = seen bytes failures old; after = seen bytes failures new }

-- of a call that does not come to a device
abbrev pub unused : Change
unused = record { before = record { bytes = None; failures = 0 }; after = record { bytes = None; failures = 0 } }

-- up to what it shows in between, and from there on
abbrev pub until : Change → Seen → Change
until c between = record { before = c.before; after = between }

abbrev pub onward : Change → Seen → Change
onward c between = record { before = between; after = c.after }

-- its count of failures is what it was
abbrev pub Passed : Change → Type 0
Passed c = c.after.failures ≡ c.before.failures

-- a call of it failed
abbrev pub Failed : Change → Type 0
Failed c = HasFailed c.before.failures c.after.failures

-- it grew by one at most
abbrev pub FailedOnce : Change → Type 0
FailedOnce c = FailedOnceAtMost c.before.failures c.after.failures

-- it took these bytes, and no others
abbrev pub Wrote : Change → List ℕ → Type 0
Wrote c text = Appends c.before.bytes c.after.bytes text

-- it took none
abbrev pub Untouched : Change → Type 0
Untouched c = Keeps c.before.bytes c.after.bytes

-- The device fails in the call exactly where this is answered, and no more than once.
pub record FailsWhere (answered : Type 0) (c : Change) : Type 0 where
  pub io : answered → Failed c
  pub passed : (answered → ⊥) → Passed c
  pub once : FailedOnce c

-- The same of two devices: one of them fails, or both.
pub record OneFailsWhere (answered : Type 0) (c d : Change) : Type 0 where
  pub io : answered → Failed c ⊎ Failed d
  pub passed : (answered → ⊥) → Passed c × Passed d
  pub once : FailedOnce c × FailedOnce d

-- Unless this is answered the device does not fail, and in no case more than once. Which device fails where it is answered, another clause says.
pub record PassesUnless (answered : Type 0) (c : Change) : Type 0 where
  pub passed : (answered → ⊥) → Passed c
  pub once : FailedOnce c

-- the same of two devices, and of three
pub record BothPassUnless (answered : Type 0) (c d : Change) : Type 0 where
  pub passed : (answered → ⊥) → Passed c × Passed d
  pub once : FailedOnce c × FailedOnce d

pub record AllPassUnless (answered : Type 0) (c d e : Change) : Type 0 where
  pub passed : (answered → ⊥) → Passed c × Passed d × Passed e
  pub once : FailedOnce c × FailedOnce d × FailedOnce e

-- A text is made in the call and handed to a writer: it takes all of it, or fails, and takes a beginning of it. Where memory is short for the text, it takes nothing.
pub record Writes {A : Type 0} (answer : Result A LogErr) (text : List ℕ) (c : Change) : Type 0 where
  pub ok : OnOk answer (Wrote c text)
  pub io : IsErrOf answer LogErr.Io → Failed c
  pub passed : (IsErrOf answer LogErr.Io → ⊥) → Passed c
  pub once : FailedOnce c
  pub begun : IsErrOf answer LogErr.Io → (k : ℕ) × Wrote c (take k text)
  pub memory : IsErrOf answer LogErr.OutOfMemory → Untouched c
  pub only : IfErr answer (λ e. (e ≡ LogErr.Io) ⊎ (e ≡ LogErr.OutOfMemory))
