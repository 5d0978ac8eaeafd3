-- What is told, and then of workers to which memory was refused.
use Rattle.std.proofs.Common.{◌≡◌, ◌++◌, ◌∙◌, ◌∷◌, ℕ, List, [], inl, inr, None, ap, append_assoc, refl, subst, take}
use Rattle.std.proofs.KnownBytes.{Appends-trans}
use Rattle.ioa_device.specs.Devices.{Change, Failed, Passed, Seen, Untouched, Wrote, onward, until}
use Rattle.ioa_device.proofs.Pieces.{failed_since}
use Rattle.ioa_serving.specs.declared.failure.Failure.{Failure}
use Rattle.ioa_serving.specs.declared.status.Status.{Status}
use Rattle.ioa_serving.specs.Printed.{failure_text}
use Rattle.ioa_serving.specs.Statuses.{failure_status}
use Rattle.ioa_serving.proofs.Pieces.{begun_first, begun_last}
use Rattle.ioac.specs.Commands.{IsFinished}
use Rattle.ioac.specs.Telling.{IsPut, IsReported}

-- what is put behind a text that was told
pub put_on : (text wants : List ℕ) (wanted : Status) (errors : Change) (between : Seen) (status : Status) → Wrote (until errors between) text → Passed (until errors between)
    → IsPut wants wanted (onward errors between) status → IsPut (text ++ wants) wanted errors status
put_on text wants wanted errors between status first same (inl put) =
    inl (put.0, Appends-trans errors.before.bytes between.bytes errors.after.bytes text wants first put.1)
put_on text wants wanted errors between status first same (inr cut) =
    inr (cut.0, (failed_since errors.before.failures between.failures errors.after.failures same cut.1.0, begun_last errors.before.bytes between.bytes errors.after.bytes text wants first cut.1.1))

-- the device failed within the text
pub put_cut : (text wants : List ℕ) (wanted : Status) (errors : Change) → Failed errors → (k : ℕ) × Wrote errors (take k text) → IsPut (text ++ wants) wanted errors Status.Unable
put_cut text wants wanted errors failed begun = inr (refl, (failed, begun_first errors.before.bytes errors.after.bytes text wants begun))

-- what there is to tell, where there are no reports
pub finished_none : (wants : List ℕ) (fit : Status) (errors : Change) (status : Status) → IsPut wants fit errors status → (wants ≡ [] → (status ≡ fit) × Untouched errors)
    → IsFinished None wants fit errors status
finished_none [] fit errors status put quiet = quiet refl
finished_none (b ∷ bs) fit errors status put quiet = put

-- a failure's line, and what stands behind it
pub reported_with : (e : Failure) (line wants : List ℕ) (wanted : Status) (errors : Change) (status : Status) → line ≡ failure_text e ++ 10 ∷ [] → wanted ≡ failure_status e
    → IsPut (line ++ wants) wanted errors status → IsReported e wants errors status
reported_with e line wants wanted errors status is same put =
    inl (subst (λ text. IsPut text (failure_status e) errors status) (ap (λ text. text ++ wants) is ∙ append_assoc (failure_text e) (10 ∷ []) wants)
    (subst (λ s. IsPut (line ++ wants) s errors status) same put))
