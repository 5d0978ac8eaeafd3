-- What comes of explaining a topic.
use Rattle.std.specs.Prelude.{ℕ, ◌≡◌, List, Option, take}
use Rattle.std.specs.Io.KnownBytes.{Appends, Keeps}
use Rattle.ioa_request.specs.declared.explanation.Explanation.{Explanation}
use Rattle.ioa_serving.specs.declared.failure.Failure.{Failure}
use Rattle.ioa_request.specs.declared.topic.Topic.{Topic}
use Rattle.ioa_request.specs.Explained.{explanation_text}
use Rattle.ioa_serving.specs.Failing.{IsDeviceErr}

-- the topic is explained in some words
abbrev pub IsExplained : Topic → Option (List ℕ) → Option (List ℕ) → Type 0
IsExplained topic before after = (e : Explanation) × (e.topic ≡ topic) × Appends before after (explanation_text e)

-- memory is short, and nothing was written; or the device failed, and a beginning of an explanation was
abbrev pub IsUnexplained : Topic → Type 0 → Option (List ℕ) → Option (List ℕ) → Failure → Type 0
IsUnexplained topic failed before after (Failure.Refused r) = ⊥
IsUnexplained topic failed before after (Failure.Object e) = ⊥
IsUnexplained topic failed before after Failure.SourceWanted = ⊥
IsUnexplained topic failed before after (Failure.List e) =
    IsDeviceErr (failed × ((e : Explanation) × (k : ℕ) × (e.topic ≡ topic) × Appends before after (take k (explanation_text e)))) e
IsUnexplained topic failed before after Failure.SpecHasInternal = ⊥
IsUnexplained topic failed before after (Failure.BadWords n) = ⊥
IsUnexplained topic failed before after Failure.TooManyTurns = ⊥
IsUnexplained topic failed before after (Failure.BadInput i) = ⊥
IsUnexplained topic failed before after Failure.Threads = ⊥
IsUnexplained topic failed before after (Failure.BadLog i) = ⊥
IsUnexplained topic failed before after Failure.EndedByFault = ⊥
IsUnexplained topic failed before after (Failure.RunLog e) = ⊥
IsUnexplained topic failed before after Failure.Io = ⊥
IsUnexplained topic failed before after Failure.OutOfMemory = Keeps before after
