-- Why a replay or a monitor in a source or an object does not come to an end, from the bytes of the file and of standard input.
use Rattle.std.specs.Prelude.{◌≡◌, ◌≢◌, ℕ, ◌⊎◌, IsTrue, Bool, true, false, List, Option, Some, None, IfSome}
use Rattle.std.specs.Io.KnownBytes.{Keeps}
use Rattle.ioa_value.specs.Actions.{Name}
use Rattle.ioa_value.specs.Lists as lists
use Rattle.ioa_lex.specs.declared.refusal.Refusal.{Refusal}
use Rattle.ioa_lex.specs.declared.refusal.Refusal.TheVariants as refusals
use Rattle.ioa_tree.specs.Tree.{SourceTree, CompositionTree}
use Rattle.ioa_syntax.specs.Source as texts
use Rattle.ioa_tree.specs.WellFormed.{WellFormed}
use Rattle.ioa_tree.specs.Compositions.{picked}
use Rattle.ioa_tree.specs.Hosts.{Hosted}
use Rattle.ioa_rules.specs.Reasons.{in_source}
use Rattle.ioa_compose.specs.Refusals as compositions
use Rattle.ioa_compile.specs.Programs.{Prog}
use Rattle.ioa_compile.specs.Subjects.{Subject, its_components, its_starts, its_types, of_hosts}
use Rattle.ioa_object.specs.Objects.{IsObject}
use Rattle.ioa_object.specs.Refusals as objects
use Rattle.ioa_bytes.specs.declared.failure.ObjErr.{ObjErr}
use Rattle.ioa_device.specs.declared.failure.LogErr.{LogErr}
use Rattle.ioa_monitor.specs.Monitoring.{IsClosed, IsOpen}
use Rattle.ioa_log.specs.Judging.{judged}
use Rattle.ioa_log.specs.LogTexts.{NotJsonAt, NoEntryAt, GoesOnAt, HasNoEnd}
use Rattle.ioa_log.specs.Reasons.{TellsWhy}
use Rattle.ioa_replay.specs.ListReplays.{BeginsReplay}
use Rattle.ioa_serving.specs.declared.failure.Failure.{Failure}
use Rattle.ioa_serving.specs.Headline.{Spells, IsFileOf, begins_object}
use Rattle.ioa_serving.specs.Logs.{BeginsLog, BeginsFound, BeginsMonitor}
use Rattle.ioa_request.specs.declared.shown.Shown.{Shown}
use Rattle.ioa_serving.specs.States.{BeginsLogStates, BeginsStates}

-- a device failed; no list and no log is read
abbrev pub IsDeviceErr : Type 0 → LogErr → Type 0
IsDeviceErr failed (LogErr.NotJson n) = ⊥
IsDeviceErr failed (LogErr.BadEntry n) = ⊥
IsDeviceErr failed (LogErr.WrongOwner n) = ⊥
IsDeviceErr failed (LogErr.Diverges n) = ⊥
IsDeviceErr failed LogErr.NoEnd = ⊥
IsDeviceErr failed LogErr.AfterEnd = ⊥
IsDeviceErr failed LogErr.Io = failed
IsDeviceErr failed LogErr.OutOfMemory = ⊥

-- the text spells a tree that is not well formed, where the refusal has its reason
abbrev pub IsIllFormed : List ℕ → Refusal → Type 0
IsIllFormed text r = (s : SourceTree) × Spells text s × (WellFormed s → ⊥) × IsTrue (in_source s r)

-- the source has no composition of the name, or one that is refused
abbrev pub IsRefusedNamed : SourceTree → Option Name → Refusal → Type 0
IsRefusedNamed s name r =
    ((picked s name ≡ None) × (r ≡ refusals.NoComposition)) ⊎ ((t : CompositionTree) × (picked s name ≡ Some t) × compositions.IsRefused s t r)

-- the text spells a well-formed tree, which has no composition of the name, or one that is refused
abbrev pub IsUncomposed : List ℕ → Option Name → Refusal → Type 0
IsUncomposed text name r = (s : SourceTree) × Spells text s × WellFormed s × IsRefusedNamed s name r

abbrev pub IsRefusedSource : List ℕ → Option Name → Refusal → Type 0
IsRefusedSource text name r =
    (r ≡ refusals.OutOfMemory) ⊎ (texts.IsRefused text r ⊎ (IsIllFormed text r ⊎ IsUncomposed text name r))

-- the object is of a composition of another name than is asked for
abbrev pub IsOtherObject : List ℕ → Option Name → Refusal → Type 0
IsOtherObject text name r = (r ≡ refusals.NoComposition) × ((p : Prog) × (x : Name) × IsObject text p × (name ≡ Some x) × (x ≢ p.name))

-- why a file gives nothing: the source is refused, or the composition is not the object's; or the bytes are no object
abbrev pub IsRefusedFile : List ℕ → Option Name → Refusal → Type 0
IsRefusedFile text name r = ((begins_object text ≡ false) × IsRefusedSource text name r) ⊎ IsOtherObject text name r

abbrev pub IsNoObject : List ℕ → ObjErr → Type 0
IsNoObject text e = (begins_object text ≡ true) × objects.IsRefused text e

abbrev pub IsRefusedGiven : List ℕ → Option Name → Failure → Type 0
IsRefusedGiven text name (Failure.Refused r) = IsRefusedFile text name r
IsRefusedGiven text name (Failure.Object e) = IsNoObject text e
IsRefusedGiven text name Failure.SourceWanted = ⊥
IsRefusedGiven text name (Failure.List e) = ⊥
IsRefusedGiven text name Failure.SpecHasInternal = ⊥
IsRefusedGiven text name (Failure.BadWords n) = ⊥
IsRefusedGiven text name Failure.TooManyTurns = ⊥
IsRefusedGiven text name (Failure.BadInput i) = ⊥
IsRefusedGiven text name Failure.Threads = ⊥
IsRefusedGiven text name (Failure.BadLog i) = ⊥
IsRefusedGiven text name Failure.EndedByFault = ⊥
IsRefusedGiven text name (Failure.RunLog e) = ⊥
IsRefusedGiven text name Failure.Io = ⊥
IsRefusedGiven text name Failure.OutOfMemory = ⊥

-- the file gives hosts or a program, of which, with the bytes, where these are known, this holds
abbrev pub Given : List ℕ → Option Name → Option (List ℕ) → (Subject → List ℕ → Type 0) → Type 0
Given text name bytes holds = (s : Subject) × IsFileOf text name s × IfSome bytes (holds s)

-- the same, where all that they do is seen
abbrev pub GivenMonitor : List ℕ → Option Name → Option (List ℕ) → (Subject → List ℕ → Type 0) → Type 0
GivenMonitor text name bytes holds = (s : Subject) × IsFileOf text name s × IsOpen s × IfSome bytes (holds s)

-- The file is refused; or the first line of the list that is no action has this number; or a device failed, after the file was accepted. Memory may be
-- short at any time.
abbrev pub IsFailure : List ℕ → Option Name → Option (List ℕ) → Type 0 → Failure → Type 0
IsFailure text name bytes failed (Failure.Refused r) = IsRefusedFile text name r
IsFailure text name bytes failed (Failure.Object e) = IsNoObject text e
IsFailure text name bytes failed Failure.SourceWanted = ⊥
IsFailure text name bytes failed (Failure.List (LogErr.NotJson n)) = ⊥
IsFailure text name bytes failed (Failure.List (LogErr.BadEntry n)) = Given text name bytes (λ s xs. lists.BadLine (its_types s) xs n)
IsFailure text name bytes failed (Failure.List (LogErr.WrongOwner n)) = ⊥
IsFailure text name bytes failed (Failure.List (LogErr.Diverges n)) = ⊥
IsFailure text name bytes failed (Failure.List LogErr.NoEnd) = ⊥
IsFailure text name bytes failed (Failure.List LogErr.AfterEnd) = ⊥
IsFailure text name bytes failed (Failure.List LogErr.Io) = (s : Subject) × IsFileOf text name s × failed
IsFailure text name bytes failed (Failure.List LogErr.OutOfMemory) = Unit {0}
IsFailure text name bytes failed Failure.SpecHasInternal = ⊥
IsFailure text name bytes failed (Failure.BadWords n) = ⊥
IsFailure text name bytes failed Failure.TooManyTurns = ⊥
IsFailure text name bytes failed (Failure.BadInput i) = ⊥
IsFailure text name bytes failed Failure.Threads = ⊥
IsFailure text name bytes failed (Failure.BadLog i) = ⊥
IsFailure text name bytes failed Failure.EndedByFault = ⊥
IsFailure text name bytes failed (Failure.RunLog e) = ⊥
IsFailure text name bytes failed Failure.Io = ⊥
IsFailure text name bytes failed Failure.OutOfMemory = Unit {0}

-- why the bytes are no log of what the subject does, of which the first line at fault is told
abbrev pub IsNoLogOf : LogErr → Subject → List ℕ → Type 0
IsNoLogOf e s bytes = TellsWhy (its_types s) (judged (its_components s) (its_starts s)) bytes e

-- The file is refused; or the bytes are no log of the run, by their first line at fault; or a device failed, after the file was accepted.
abbrev pub IsLogReplayFailure : List ℕ → Option Name → Option (List ℕ) → Type 0 → Failure → Type 0
IsLogReplayFailure text name bytes failed (Failure.Refused r) = IsRefusedFile text name r
IsLogReplayFailure text name bytes failed (Failure.Object e) = IsNoObject text e
IsLogReplayFailure text name bytes failed Failure.SourceWanted = ⊥
IsLogReplayFailure text name bytes failed (Failure.List (LogErr.NotJson n)) = Given text name bytes (IsNoLogOf (LogErr.NotJson n))
IsLogReplayFailure text name bytes failed (Failure.List (LogErr.BadEntry n)) = Given text name bytes (IsNoLogOf (LogErr.BadEntry n))
IsLogReplayFailure text name bytes failed (Failure.List (LogErr.WrongOwner n)) = Given text name bytes (IsNoLogOf (LogErr.WrongOwner n))
IsLogReplayFailure text name bytes failed (Failure.List (LogErr.Diverges n)) = Given text name bytes (IsNoLogOf (LogErr.Diverges n))
IsLogReplayFailure text name bytes failed (Failure.List LogErr.NoEnd) = Given text name bytes (IsNoLogOf LogErr.NoEnd)
IsLogReplayFailure text name bytes failed (Failure.List LogErr.AfterEnd) = Given text name bytes (IsNoLogOf LogErr.AfterEnd)
IsLogReplayFailure text name bytes failed (Failure.List LogErr.Io) = (s : Subject) × IsFileOf text name s × failed
IsLogReplayFailure text name bytes failed (Failure.List LogErr.OutOfMemory) = Unit {0}
IsLogReplayFailure text name bytes failed Failure.SpecHasInternal = ⊥
IsLogReplayFailure text name bytes failed (Failure.BadWords n) = ⊥
IsLogReplayFailure text name bytes failed Failure.TooManyTurns = ⊥
IsLogReplayFailure text name bytes failed (Failure.BadInput i) = ⊥
IsLogReplayFailure text name bytes failed Failure.Threads = ⊥
IsLogReplayFailure text name bytes failed (Failure.BadLog i) = ⊥
IsLogReplayFailure text name bytes failed Failure.EndedByFault = ⊥
IsLogReplayFailure text name bytes failed (Failure.RunLog e) = ⊥
IsLogReplayFailure text name bytes failed Failure.Io = ⊥
IsLogReplayFailure text name bytes failed Failure.OutOfMemory = Unit {0}

-- the same where invariants or states are asked for, of which a source alone tells; or the file is an object
abbrev pub IsInvariantFailure : List ℕ → Option Name → Option (List ℕ) → Type 0 → Failure → Type 0
IsInvariantFailure text name bytes failed e =
    ((begins_object text ≡ false) × IsLogReplayFailure text name bytes failed e) ⊎ ((begins_object text ≡ true) × (e ≡ Failure.SourceWanted))

-- so of a list where states are asked for
abbrev pub IsStatesFailure : List ℕ → Option Name → Option (List ℕ) → Type 0 → Failure → Type 0
IsStatesFailure text name bytes failed e =
    ((begins_object text ≡ false) × IsFailure text name bytes failed e) ⊎ ((begins_object text ≡ true) × (e ≡ Failure.SourceWanted))

-- The file is refused; or not all that is done is seen; or the bytes are no log, by this line; or a device failed, after
-- the file was accepted.
abbrev pub IsMonitorFailure : List ℕ → Option Name → Option (List ℕ) → Type 0 → Failure → Type 0
IsMonitorFailure text name bytes failed (Failure.Refused r) = IsRefusedFile text name r
IsMonitorFailure text name bytes failed (Failure.Object e) = IsNoObject text e
IsMonitorFailure text name bytes failed Failure.SourceWanted = ⊥
IsMonitorFailure text name bytes failed (Failure.List (LogErr.NotJson n)) = GivenMonitor text name bytes (λ s xs. NotJsonAt (its_types s) xs n)
IsMonitorFailure text name bytes failed (Failure.List (LogErr.BadEntry n)) = GivenMonitor text name bytes (λ s xs. NoEntryAt (its_types s) xs n)
IsMonitorFailure text name bytes failed (Failure.List (LogErr.WrongOwner n)) = ⊥
IsMonitorFailure text name bytes failed (Failure.List (LogErr.Diverges n)) = ⊥
IsMonitorFailure text name bytes failed (Failure.List LogErr.NoEnd) = GivenMonitor text name bytes (λ s xs. HasNoEnd (its_types s) xs)
IsMonitorFailure text name bytes failed (Failure.List LogErr.AfterEnd) = GivenMonitor text name bytes (λ s xs. (n : ℕ) × GoesOnAt (its_types s) xs n)
IsMonitorFailure text name bytes failed (Failure.List LogErr.Io) = (s : Subject) × IsFileOf text name s × IsOpen s × failed
IsMonitorFailure text name bytes failed (Failure.List LogErr.OutOfMemory) = Unit {0}
IsMonitorFailure text name bytes failed Failure.SpecHasInternal = (s : Subject) × IsFileOf text name s × IsClosed s
IsMonitorFailure text name bytes failed (Failure.BadWords n) = ⊥
IsMonitorFailure text name bytes failed Failure.TooManyTurns = ⊥
IsMonitorFailure text name bytes failed (Failure.BadInput i) = ⊥
IsMonitorFailure text name bytes failed Failure.Threads = ⊥
IsMonitorFailure text name bytes failed (Failure.BadLog i) = ⊥
IsMonitorFailure text name bytes failed Failure.EndedByFault = ⊥
IsMonitorFailure text name bytes failed (Failure.RunLog e) = ⊥
IsMonitorFailure text name bytes failed Failure.Io = ⊥
IsMonitorFailure text name bytes failed Failure.OutOfMemory = Unit {0}

-- what is written begins what a replay of the list, a replay of the log, without and with its invariants, or a monitor of it writes
abbrev pub BeginsReplayOf : List ℕ → Option Name → Option (List ℕ) → Option (List ℕ) → Option (List ℕ) → Type 0
BeginsReplayOf text name bytes before after =
    Given text name bytes (λ s xs. BeginsReplay s xs before after)

abbrev pub BeginsLogOf : List ℕ → Option Name → Option (List ℕ) → Option (List ℕ) → Option (List ℕ) → Type 0
BeginsLogOf text name bytes before after = Given text name bytes (λ s xs. BeginsLog s xs before after)

abbrev pub BeginsFoundOf : List ℕ → Option Name → Option (List ℕ) → Option (List ℕ) → Option (List ℕ) → Type 0
BeginsFoundOf text name bytes before after = (h : Hosted) × IsFileOf text name (of_hosts h) × IfSome bytes (λ xs. BeginsFound h xs before after)

abbrev pub BeginsStatesOf : List ℕ → Option Name → Shown → Option (List ℕ) → Option (List ℕ) → Option (List ℕ) → Type 0
BeginsStatesOf text name shown bytes before after = (h : Hosted) × IsFileOf text name (of_hosts h) × IfSome bytes (λ xs. BeginsStates h shown xs before after)

abbrev pub BeginsLogStatesOf : List ℕ → Option Name → Shown → Option (List ℕ) → Option (List ℕ) → Option (List ℕ) → Type 0
BeginsLogStatesOf text name shown bytes before after = (h : Hosted) × IsFileOf text name (of_hosts h) × IfSome bytes (λ xs. BeginsLogStates h shown xs before after)

abbrev pub BeginsMonitorOf : Bool → List ℕ → Option Name → Option (List ℕ) → Option (List ℕ) → Option (List ℕ) → Type 0
BeginsMonitorOf json text name bytes before after = Given text name bytes (λ s xs. BeginsMonitor json s xs before after)

-- what is left where a device failed, and what after every other failure
abbrev pub IsLeft : Type 0 → Type 0 → Failure → Type 0
IsLeft broken other (Failure.Refused r) = other
IsLeft broken other (Failure.Object e) = other
IsLeft broken other Failure.SourceWanted = other
IsLeft broken other (Failure.List (LogErr.NotJson n)) = other
IsLeft broken other (Failure.List (LogErr.BadEntry n)) = other
IsLeft broken other (Failure.List (LogErr.WrongOwner n)) = other
IsLeft broken other (Failure.List (LogErr.Diverges n)) = other
IsLeft broken other (Failure.List LogErr.NoEnd) = other
IsLeft broken other (Failure.List LogErr.AfterEnd) = other
IsLeft broken other (Failure.List LogErr.Io) = broken
IsLeft broken other (Failure.List LogErr.OutOfMemory) = other
IsLeft broken other Failure.SpecHasInternal = other
IsLeft broken other (Failure.BadWords n) = other
IsLeft broken other Failure.TooManyTurns = other
IsLeft broken other (Failure.BadInput i) = other
IsLeft broken other Failure.Threads = other
IsLeft broken other (Failure.BadLog i) = other
IsLeft broken other Failure.EndedByFault = other
IsLeft broken other (Failure.RunLog e) = other
IsLeft broken other Failure.Io = other
IsLeft broken other Failure.OutOfMemory = other

-- nothing was written, or, where a device failed, no more than such a beginning
abbrev pub IsUnwritten : (Option (List ℕ) → Option (List ℕ) → Type 0) → Option (List ℕ) → Option (List ℕ) → Failure → Type 0
IsUnwritten begins before after e = IsLeft (Keeps before after ⊎ begins before after) (Keeps before after) e
