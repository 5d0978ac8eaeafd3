-- How a device fares in calls that follow on one another.
use Rattle.std.proofs.Common.{◌≡◌, ◌∙◌, ℕ, List, Option, Result, Err, ap, arith, inl}
use Rattle.std.specs.Result.{IsErrOf}
use Rattle.ioa_device.specs.Devices.{Change, FailsWhere, OneFailsWhere, Passed, change}
use Rattle.ioa_device.specs.declared.failure.LogErr.{LogErr}
use Rattle.ioa_device.proofs.Pieces.{failed_since}

-- a device that passed so far, where the error of a call is handed on
pub handed_on : {D T U : Type 0} (bytes : D → Option (List ℕ)) (failures : D → ℕ) (first before after : D) (x y e : LogErr) (r : Result T LogErr) → r ≡ Err y → y ≡ x
    → failures before ≡ failures first → FailsWhere (IsErrOf {T = U} (Err x) e) (change bytes failures before after)
    → FailsWhere (IsErrOf r e) (change bytes failures first after)
handed_on bytes failures first before after x y e r is same passed call = record {
  io = λ told. let k : x ≡ e = cc in failed_since (failures first) (failures before) (failures after) passed (call.io (ap Err k));
  passed = λ other. call.passed (λ told. let k : x ≡ e = cc in other (is ∙ ap Err (same ∙ k))) ∙ passed;
  once = omega (arith, call.once, passed);
}

-- of two devices the first alone is called
pub first_fails : (answered : Type 0) (c d : Change) → FailsWhere answered c → Passed d → OneFailsWhere answered c d
first_fails answered c d call same = record {
  io = λ told. inl (call.io told);
  passed = λ other. (call.passed other, same);
  once = (call.once, omega (arith, same));
}

-- a device passed, and no failure is answered
pub passes : (answered : Type 0) (c : Change) → (answered → ⊥) → Passed c → FailsWhere answered c
passes answered c none same = record { io = λ told. absurd (none told); passed = λ other. same; once = omega (arith, same) }
