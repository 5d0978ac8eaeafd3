-- When a device failed in a call, by its counts before and after; and which failures a call may answer.
use Rattle.std.specs.Prelude.{ℕ, ◌≡◌, ◌<◌, ◌≤◌, ◌+◌, ◌⊎◌, ◌^◌, ◌-◌, List, length, IfOk, Result, ⊤}
use Rattle.ioa_device.specs.declared.failure.LogErr.{LogErr}
use Rattle.ioa_device.specs.declared.failure.LogErr.TheVariants.{NotJson, BadEntry, WrongOwner, Diverges, NoEnd, AfterEnd, Io, OutOfMemory}

-- the count grew, or stood at its greatest
abbrev pub HasFailed : ℕ → ℕ → Type 0
HasFailed before after = (before < after) ⊎ (before ≡ 2 ^ 64 - 1)

-- the count grew by one at most
abbrev pub FailedOnceAtMost : ℕ → ℕ → Type 0
FailedOnceAtMost before after = after ≤ before + 1

-- a write that passed took a byte where there was one
abbrev pub TakesSome : {E : Type 0} → Result ℕ E → List ℕ → Type 0
TakesSome r piece = IfOk r (λ n. 0 < length piece → 0 < n)

-- a list is not replayed
abbrev pub IsListErr : LogErr → Type 0
IsListErr (NotJson n) = ⊥
IsListErr (BadEntry n) = ⊤
IsListErr (WrongOwner n) = ⊥
IsListErr (Diverges n) = ⊥
IsListErr NoEnd = ⊥
IsListErr AfterEnd = ⊥
IsListErr Io = ⊤
IsListErr OutOfMemory = ⊤

-- a line of a log is not read
abbrev pub IsLineErr : LogErr → Type 0
IsLineErr (NotJson n) = ⊤
IsLineErr (BadEntry n) = ⊤
IsLineErr (WrongOwner n) = ⊥
IsLineErr (Diverges n) = ⊥
IsLineErr NoEnd = ⊥
IsLineErr AfterEnd = ⊥
IsLineErr Io = ⊥
IsLineErr OutOfMemory = ⊤

-- a log's text is not read
abbrev pub IsTextErr : LogErr → Type 0
IsTextErr (NotJson n) = ⊤
IsTextErr (BadEntry n) = ⊤
IsTextErr (WrongOwner n) = ⊥
IsTextErr (Diverges n) = ⊥
IsTextErr NoEnd = ⊤
IsTextErr AfterEnd = ⊤
IsTextErr Io = ⊤
IsTextErr OutOfMemory = ⊤
