-- Where what is asked of a file's text fails, the request fails so.
use Rattle.std.proofs.Common.{◌≡◌, ◌⊎◌, ℕ, inr, List, Result, IfErr, subst, sym}
use Rattle.std.specs.Result.{IsErrAnd}
use Rattle.std.proofs.lemmas.Result.{err_from_is_err_and}
use Rattle.ioa_serving.specs.declared.failure.Failure.{Failure}
use Rattle.ioa_serving.proofs.Refused.{err_so}

-- the text that the file may hold is handed on as it was read
pub text_failed : {T : Type 0} (Holds : List ℕ → Type 0) (Unread : Failure → Type 0) (Refused Unwritten : List ℕ → Failure → Type 0)
    (r : Result T Failure) (x : Failure) (read text : List ℕ)
    → IsErrAnd r (λ e. e ≡ x) → text ≡ read → Holds read → Refused text x → Unwritten text x
    → IfErr r (λ e. Unread e ⊎ ((text : List ℕ) × Holds text × Refused text e × Unwritten text e))
text_failed Holds Unread Refused Unwritten r x read text failed same held refused unwritten =
    let e = err_from_is_err_and r failed in
    err_so r e.0 x _ e.1 e.2 (inr (text, subst Holds (sym same) held, refused, unwritten))
