-- What the exit status tells of a failure that is told.
use Rattle.std.proofs.Common.{◌≡◌, ℕ, List, Result, Ok, Err, inl, inr, ap, ◌∙◌}
use Rattle.std.specs.Prelude.{IfErr, IsErrOf}
use Rattle.ioa_device.specs.Devices.{Change}
use Rattle.ioa_device.specs.declared.failure.LogErr.{LogErr}
use Rattle.ioa_serving.specs.declared.failure.Failure.{Failure}
use Rattle.ioa_serving.specs.declared.status.Status.{Status}
use Rattle.ioa_serving.specs.Statuses.{failure_status}
use Rattle.ioac.specs.Telling.{IsReported}

-- it is the failure's own, or that of a device that failed, too
pub reported_status : (e : Failure) (wants : List ℕ) (errors : Change) (status : Status) → IsReported e wants errors status
    → (status ≡ Status.Unable → ⊥) → status ≡ failure_status e
reported_status e wants errors status (inl (inl put)) whole = put.0
reported_status e wants errors status (inl (inr cut)) whole = absurd (whole cut.0)
reported_status e wants errors status (inr (inl put)) whole = absurd (whole put.0)
reported_status e wants errors status (inr (inr cut)) whole = absurd (whole cut.0)

-- a device's failure has the status of what is broken
pub no_device_failed : (e : Failure) (wants : List ℕ) (errors : Change) (status : Status) → IsReported e wants errors status
    → (status ≡ Status.Unable → ⊥) → e ≡ Failure.List LogErr.Io → ⊥
no_device_failed e wants errors status reports whole is = whole (reported_status e wants errors status reports whole ∙ ap failure_status is)

-- so where the status tells of none, no device's failure came of the call
pub no_device_failed_in : {A : Type 0} (r : Result A Failure) (wants : List ℕ) (errors : Change) (status : Status) → IfErr r (λ e. IsReported e wants errors status)
    → (status ≡ Status.Unable → ⊥) → IsErrOf r (Failure.List LogErr.Io) → ⊥
no_device_failed_in (Ok x) wants errors status reports whole is = cc
no_device_failed_in (Err e) wants errors status reports whole is = let same : e ≡ Failure.List LogErr.Io = cc in no_device_failed e wants errors status reports whole same
