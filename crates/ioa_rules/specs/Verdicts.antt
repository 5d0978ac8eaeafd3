-- What an answer of the checker says about a part of a source: of the test that it is, and of the reasons for a refusal.
use Rattle.std.specs.Prelude.{◌≡◌, ◌≢◌, ℕ, Bool, true, false, Option, Some, None, Result, Ok, Err}
use Rattle.ioa_value.specs.declared.value.Ty.{Ty}
use Rattle.ioa_lex.specs.declared.refusal.Refusal.{Refusal}
use Rattle.ioa_lex.specs.declared.refusal.Refusal.TheVariants.{OutOfMemory}
use Rattle.ioa_rules.specs.Reasons.{Reasons}

-- Ok where the test is passed; where it is not, a refusal that has its reason
abbrev pub Says : {T : Type 0} → Result T Refusal → Bool → Reasons → Type 0
Says (Ok x) test reasons = test ≡ true
Says (Err r) test reasons = (reasons r ≡ true) × (test ≡ false)

-- the same, where memory may be short
abbrev pub SaysOrMemory : {T : Type 0} → Result T Refusal → Bool → Reasons → Type 0
SaysOrMemory (Ok x) test reasons = test ≡ true
SaysOrMemory (Err r) test reasons = r ≢ OutOfMemory → (reasons r ≡ true) × (test ≡ false)

-- the type, or where there is none, a refusal that has its reason
abbrev pub Finds : Result Ty Refusal → Option ℕ → Reasons → Type 0
Finds (Ok ty) o reasons = o ≡ Some ty.0
Finds (Err r) o reasons = (reasons r ≡ true) × (o ≡ None)
