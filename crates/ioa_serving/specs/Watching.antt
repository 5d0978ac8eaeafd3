-- What a watch of a stream by compositions of a source is, from the bytes that are read to the bytes that are written, and why nothing is watched or
-- not all.
use Rattle.std.specs.Prelude.{◌≡◌, ◌⊎◌, ◌++◌, ◌∷◌, ℕ, All, Bool, true, false, List, Option, Some, None, IfSome, is_some}
use Rattle.std.specs.Io.KnownBytes.{Appends, Keeps}
use Rattle.std.specs.List.{AllZip, list_any}
use Rattle.ioa_value.specs.Actions.{Act, Name}
use Rattle.ioa_lex.specs.declared.refusal.Refusal.{Refusal}
use Rattle.ioa_lex.specs.declared.refusal.Refusal.TheVariants as refusals
use Rattle.ioa_syntax.specs.Source as texts
use Rattle.ioa_tree.specs.Tree.{CompositionTree, SourceTree}
use Rattle.ioa_tree.specs.Compositions.{picked}
use Rattle.ioa_tree.specs.Hosts.{Hosted, IsHosted, host_starts, hosts_of}
use Rattle.ioa_tree.specs.Types.{types_of}
use Rattle.ioa_tree.specs.WellFormed.{WellFormed}
use Rattle.ioa_compile.specs.Programs.{Prog}
use Rattle.ioa_compile.specs.Subjects.{Runs}
use Rattle.ioa_device.specs.declared.failure.LogErr.{LogErr}
use Rattle.ioa_device.specs.Failing.{IsLineErr}
use Rattle.ioa_monitor.specs.Monitoring.{IsHiding, IsSeen}
use Rattle.ioa_watch.specs.Names.{names_of}
use Rattle.ioa_watch.specs.Streams.{IsFailed, IsWatched}
use Rattle.ioa_watch.specs.Watched.{watched}
use Rattle.ioa_watch.specs.Watchers.{refused_by}
use Rattle.ioa_serving.specs.declared.failure.Failure.{Failure}
use Rattle.ioa_serving.specs.declared.status.Status.{Status}
use Rattle.ioa_serving.specs.Counting.{MayTell, counted_text}
use Rattle.ioa_serving.specs.Failing.{IsIllFormed, IsRefusedNamed}
use Rattle.ioa_serving.specs.Headline.{Spells, begins_object}
use Rattle.ioa_serving.specs.Statuses.{watch_status}

-- ---- specifications

-- The composition of this name is of hosts, of which all is seen, and the program does what they do: it refuses of a stream what they refuse.
pub record Specifies (s : SourceTree) (name : Name) (p : Prog) : Type 0 where
  pub tree : CompositionTree
  pub hosts : Hosted
  pub picks : picked s (Some name) ≡ Some tree
  pub is_hosted : IsHosted s tree hosts
  pub seen : IsSeen hosts
  pub runs : Runs p hosts
  pub refuses : (acts : List Act) → refused_by p acts ≡ watched (names_of p.members) (hosts_of hosts) acts (host_starts hosts)

-- The text is a source, and each of the programs is that of the specification of its name.
pub record AreSpecified (text : List ℕ) (names : List Name) (s : SourceTree) (ps : List Prog) : Type 0 where
  pub is_source : begins_object text ≡ false
  pub spells : Spells text s
  pub well_formed : WellFormed s
  pub each : AllZip (Specifies s) names ps

-- ---- what is told

-- one of them refuses something
abbrev pub some_refuses : List Prog → List Act → Bool
some_refuses ps acts = list_any (λ p. is_some (refused_by p acts)) ps

-- The stream is watched by the specifications until nothing more can be told, and what is told is written; this is whether one refused something, and
-- what they counted, where that is asked for.
pub record IsWatching (text : List ℕ) (names : List Name) (first counts json : Bool) (bytes : List ℕ) (before after counted : Option (List ℕ)) (refused : Bool) : Type 0 where
  pub source : SourceTree
  pub programs : List Prog
  pub specified : AreSpecified text names source programs
  pub told : List ℕ
  pub acts : List Act
  pub watches : IsWatched json (types_of source) programs first bytes told acts
  pub written : Appends before after told
  pub counted_is : MayTell counts (counted_text programs acts) counted
  pub refused_is : refused ≡ some_refuses programs acts

-- So it is of the bytes, where these are known; the status tells whether one refused something, and nothing else is told unasked.
abbrev pub IsWatchServed : List ℕ → List Name → Bool → Bool → Bool → Option (List ℕ) → Option (List ℕ) → Option (List ℕ) → Option (List ℕ) → Status → Type 0
IsWatchServed text names first counts json bytes before after counted status =
    (refused : Bool) × IfSome bytes (λ xs. IsWatching text names first counts json xs before after counted refused) × (status ≡ watch_status refused)
    × (counts ≡ false → counted ≡ None)

-- ---- why nothing is watched

-- not all is seen that the hosts do of the composition of this name
abbrev pub IsHidingNamed : SourceTree → Name → Type 0
IsHidingNamed s name = (t : CompositionTree) × (h : Hosted) × (picked s (Some name) ≡ Some t) × IsHosted s t h × IsHiding h

-- the composition of this name is refused, or it is no specification; memory may be short
abbrev pub IsNoSpecification : SourceTree → Name → Failure → Type 0
IsNoSpecification s name e =
    ((r : Refusal) × (e ≡ Failure.Refused r) × IsRefusedNamed s (Some name) r)
    ⊎ (((e ≡ Failure.SpecHasInternal) × IsHidingNamed s name) ⊎ (e ≡ Failure.OutOfMemory))

-- So is the first of these names that is no specification's: those before it are.
pub record IsFirstUnspecified (s : SourceTree) (names : List Name) (e : Failure) : Type 0 where
  pub before : List Name
  pub first : Name
  pub after : List Name
  pub order : names ≡ before ++ first ∷ after
  pub specified : All (λ x. (p : Prog) × Specifies s x p) before
  pub unspecified : IsNoSpecification s first e

-- the text is no source, or the source is not well formed
abbrev pub IsNoSource : List ℕ → Refusal → Type 0
IsNoSource text r = (r ≡ refusals.OutOfMemory) ⊎ (texts.IsRefused text r ⊎ IsIllFormed text r)

abbrev pub IsUnspecified : List ℕ → List Name → Failure → Type 0
IsUnspecified text names e =
    ((r : Refusal) × (e ≡ Failure.Refused r) × IsNoSource text r)
    ⊎ (((s : SourceTree) × Spells text s × WellFormed s × IsFirstUnspecified s names e) ⊎ (e ≡ Failure.OutOfMemory))

-- the file is an object; or the source is refused, or one of the names is no specification's
abbrev pub IsUnwatched : List ℕ → List Name → Failure → Type 0
IsUnwatched text names e =
    ((begins_object text ≡ true) × (e ≡ Failure.SourceWanted)) ⊎ ((begins_object text ≡ false) × IsUnspecified text names e)

-- ---- why not all is watched

-- The specifications watch the stream up to a line that is none, or until a device failed or memory was short; what is told before is written.
pub record IsWatchCut (text : List ℕ) (names : List Name) (first json : Bool) (bytes : Option (List ℕ)) (failed : Type 0) (before after : Option (List ℕ)) (e : Failure) : Type 0 where
  pub source : SourceTree
  pub programs : List Prog
  pub specified : AreSpecified text names source programs
  pub error : LogErr
  pub error_is : e ≡ Failure.List error
  pub kind : IsLineErr error ⊎ (error ≡ LogErr.Io)
  pub device : error ≡ LogErr.Io → failed
  pub cut : IfSome bytes (λ xs. IsFailed json (types_of source) programs first xs before after error)

-- nothing is watched, and nothing is written; or not all is watched
abbrev pub IsWatchFailure : List ℕ → List Name → Bool → Bool → Option (List ℕ) → Type 0 → Option (List ℕ) → Option (List ℕ) → Failure → Type 0
IsWatchFailure text names first json bytes failed before after e =
    (IsUnwatched text names e × Keeps before after) ⊎ IsWatchCut text names first json bytes failed before after e
