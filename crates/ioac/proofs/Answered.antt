-- What was served, or not, and what is told of it.
use Rattle.std.proofs.Common.{◌≡◌, ◌∙◌, ◌⊎◌, ℕ, List, Option, Result, Ok, Err, IfOk, inl, inr}
use Rattle.std.specs.Prelude.{IfErr}
use Rattle.ioa_device.specs.Devices.{Change}
use Rattle.ioa_serving.specs.declared.failure.Failure.{Failure}
use Rattle.ioa_serving.specs.declared.served.Served.{Served}
use Rattle.ioa_serving.specs.declared.status.Status.{Status}
use Rattle.ioa_serving.specs.Serving.{reports_of}
use Rattle.ioac.specs.Telling.{IsPut}

-- what follows of a call and of the next one, each where it passed, or each where it failed
pub both_ok : {A E : Type 0} (P Q : A → Type 0) (r : Result A E) → IfOk r P → IfOk r Q → IfOk r (λ x. P x × Q x)
both_ok P Q (Ok x) p q = (p, q)
both_ok P Q (Err e) p q = tt

pub both_err : {A E : Type 0} (P Q : E → Type 0) (r : Result A E) → IfErr r P → IfErr r Q → IfErr r (λ e. P e × Q e)
both_err P Q (Ok x) p q = tt
both_err P Q (Err e) p q = (p, q)

-- what follows of why a call failed
pub if_err : {A E : Type 0} (P Q : E → Type 0) (r : Result A E) → ((e : E) → P e → Q e) → IfErr r P → IfErr r Q
if_err P Q (Ok x) f p = tt
if_err P Q (Err e) f p = f e p

-- one of both is so, with what there is to tell of workers
pub answered : (r : Result Served Failure) (of : List ℕ → Type 0) (served finished : Option (List ℕ) → List ℕ → Status → Type 0) (unserved reported : List ℕ → Failure → Type 0)
    → (wants : List ℕ) × of wants × IfOk r (λ s. served (reports_of s) wants s.status × finished (reports_of s) wants s.status) × IfErr r (λ e. unserved wants e × reported wants e)
    → (wants : List ℕ) × of wants
    × (((reports : Option (List ℕ)) × (done : Status) × served reports wants done × finished reports wants done) ⊎ ((e : Failure) × unserved wants e × reported wants e))
answered (Ok s) of served finished unserved reported (wants, are, serves, fails) = (wants, are, inl (reports_of s, s.status, serves.0, serves.1))
answered (Err e) of served finished unserved reported (wants, are, serves, fails) = (wants, are, inr (e, fails.0, fails.1))

-- what holds of whatever a call passed, or of whatever it failed with
pub any_ok : {A E : Type 0} (P : A → Type 0) (r : Result A E) → ((x : A) → P x) → IfOk r P
any_ok P (Ok x) f = f x
any_ok P (Err e) f = tt

pub any_err : {A E : Type 0} (P : E → Type 0) (r : Result A E) → ((e : E) → P e) → IfErr r P
any_err P (Ok x) f = tt
any_err P (Err e) f = f e

-- and what there is to say of it follows
pub followed : (r : Result Served Failure) (served finished : Option (List ℕ) → Status → Type 0) (unserved reported : Failure → Type 0) (follows_done : Status → Type 0)
    (follows : Failure → Type 0) → IfOk r (λ s. served (reports_of s) s.status × finished (reports_of s) s.status) → IfErr r (λ e. unserved e × reported e)
    → IfOk r (λ s. follows_done s.status) → IfErr r follows
    → ((reports : Option (List ℕ)) × (done : Status) × served reports done × finished reports done × follows_done done) ⊎ ((e : Failure) × unserved e × reported e × follows e)
followed (Ok s) served finished unserved reported follows_done follows serves fails done none = inl (reports_of s, s.status, serves.0, serves.1, done)
followed (Err e) served finished unserved reported follows_done follows serves fails none done = inr (e, fails.0, fails.1, done)

-- where the text is told, the status is the one that was wanted
pub told_through : (text : List ℕ) (wanted : Status) (errors : Change) (status : Status) → IsPut text wanted errors status → (status ≡ Status.Unable → ⊥) → wanted ≡ Status.Unable → ⊥
told_through text wanted errors status (inl put) whole is = whole (put.0 ∙ is)
told_through text wanted errors status (inr cut) whole is = whole cut.0
