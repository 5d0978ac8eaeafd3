-- What a watch of a stream answers, told of the bytes of a source.
use Rattle.std.proofs.Common.{◌≡◌, ◌⊎◌, ℕ, Bool, inr, List, Option, IfSome, refl, sym, subst}
use Rattle.std.specs.Io.KnownBytes.{Appends}
use Rattle.std.specs.List.{list_any}
use Rattle.ioa_value.specs.Actions.{Act, Name}
use Rattle.ioa_value.specs.Table.{Table}
use Rattle.ioa_tree.specs.Tree.{SourceTree}
use Rattle.ioa_tree.specs.Types.{types_of}
use Rattle.ioa_compile.specs.Programs.{Prog}
use Rattle.ioa_device.specs.declared.failure.LogErr.{LogErr}
use Rattle.ioa_device.specs.Failing.{IsLineErr}
use Rattle.ioa_watch.specs.declared.watcher.Watcher.{Watcher}
use Rattle.ioa_watch.specs.Streaming.{HaveHeard, has_refused}
use Rattle.ioa_watch.specs.Streams.{IsFailed, IsWatched}
use Rattle.ioa_watch.proofs.HeardUpTo.{any_refused}
use Rattle.ioa_serving.specs.declared.failure.Failure.{Failure}
use Rattle.ioa_serving.specs.Counting.{MayTell, counted_text}
use Rattle.ioa_serving.specs.Watching.{AreSpecified, IsWatchFailure, IsWatching}

module _ (text : List ℕ) (names : List Name) (first json : Bool) (before after : Option (List ℕ)) (s : SourceTree) (ps qs : List Prog) (types : Table)
    (of : AreSpecified text names s ps) (same : qs ≡ ps) (typed : types ≡ types_of s) where
  -- what is told is written, and what they counted tells which refused something
  pub watching : (counts : Bool) (bytes : List ℕ) (ws : List Watcher) (counted : Option (List ℕ))
      → ((rs : List Prog) (acts : List Act) → HaveHeard rs acts ws → MayTell counts (counted_text rs acts) counted)
      → (told : List ℕ) × (acts : List Act) × IsWatched json types qs first bytes told acts × Appends before after told × HaveHeard qs acts ws
      → IsWatching text names first counts json bytes before after counted (list_any has_refused ws)
  watching counts bytes ws counted tells k = record {
    source = s;
    programs = qs;
    specified = subst (λ (xs : List Prog). AreSpecified text names s xs) (sym same) of;
    told = k.0;
    acts = k.1;
    watches = subst (λ (t : Table). IsWatched json t qs first bytes k.0 k.1) typed k.2;
    written = k.3;
    counted_is = tells qs k.1 k.4;
    refused_is = any_refused qs k.1 ws k.4;
  }

  -- why not all is watched
  pub cut : (bytes : Option (List ℕ)) (failed : Type 0) (error : LogErr) → IsLineErr error ⊎ (error ≡ LogErr.Io) → (error ≡ LogErr.Io → failed)
      → IfSome bytes (λ xs. IsFailed json types qs first xs before after error) → IsWatchFailure text names first json bytes failed before after (Failure.List error)
  cut bytes failed error kind device why = inr (record {
    source = s;
    programs = qs;
    specified = subst (λ (xs : List Prog). AreSpecified text names s xs) (sym same) of;
    error = error;
    error_is = refl;
    kind = kind;
    device = device;
    cut = subst (λ (t : Table). IfSome bytes (λ xs. IsFailed json t qs first xs before after error)) typed why;
  })
